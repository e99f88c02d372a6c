-- A settled plan is counted, a refused one ends the pass.
use mathlib.Core.Path.{sym, ap, subst, ◌∙◌}
use Rattle.std.specs.Prelude.{Result}
use Rattle.task.specs.declared.Refusal.{Refusal}
use Rattle.state.specs.Member.{bit}
use Rattle.settling.specs.Answers.{settled_as}
use Rattle.settling.specs.declared.Worth.{Worth}
use Rattle.plan.specs.ThenSettled.{priced}
use Rattle.figures.specs.Pass.{on, turned}
use Rattle.weekly.specs.Answers.{as_tally}
use Rattle.weekly.specs.Turns.{Cheap}
use Rattle.weekly.proofs.tally.take_settled.Goals as goal

pub count-requires : goal.count-requires
count-requires c = (c.requires.0, subst Cheap c.in-Ok.is c.requires.1)

pub returns-in-Ok : goal.returns-in-Ok
returns-in-Ok c =
    let a = c.args in
    λ cost. ap on c.count.ensures
    ∙ ap (λ (s : Result Worth Refusal). turned a.k (as_tally a.t.now) (priced cost (bit a.met) (settled_as s))) (sym c.in-Ok.is)

pub returns-in-Err : goal.returns-in-Err
returns-in-Err c =
    let a = c.args in
    λ cost. rw c.at.ensures
    (ap (λ (s : Result Worth Refusal). turned a.k (as_tally a.t.now) (priced cost (bit a.met) (settled_as s))) (sym c.in-Err.is))
