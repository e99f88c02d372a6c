-- The goal's condition, read in the node's state.
use mathlib.Core.Path.{◌∙◌, ap}
use Rattle.state.specs.Member.{member}
use Rattle.state.specs.declared.State.{State}
use Rattle.reading.specs.Conditions.{begin, evaluate_at}
use Rattle.reading.specs.declared.conditions.Evaluated.{Evaluated}
use Rattle.exploring.proofs.meets_goal.Goals as goal

pub returns : goal.returns
returns c =
    let a = c.args in
    ap (λ (e : Evaluated). e.holds) c.condition-g.ensures.value
    ∙ ap (λ (s : State). (evaluate_at (member s) begin a.rows.now.marks.now a.rows.now.values.now a.goal).holds) c.state_at.ensures
