-- What the readers of a condition and of effects give is where the action leads, by `Leading`.
use borrow.Author.Tests.{not-true, not-false}
use mathlib.Core.Path.{◌≡◌, ap, ◌∙◌, subst}
use Prim.Native.Nat.{ℕ, ◌+◌}
use Rattle.meaning.specs.Meaning.{action_at}
use Rattle.state.specs.Member.{member}
use Rattle.state.specs.declared.State.{State}
use Rattle.node_words.specs.Words.{state_of}
use Rattle.reading.specs.Conditions.{begin, evaluate_at}
use Rattle.reading.specs.Effects.{Changes}
use Rattle.monitors.proofs.TaskRead.{its_effects}
use Rattle.leading.proofs.Leading.{nowhere, led_to}
use Rattle.leading.proofs.lead.Goals as goal
use Rattle.leading.proofs.lead.Goals.{After-condition-pre}

-- the condition, read in the state of x
read : (c : After-condition-pre) → let a = c.args in
    c.condition-pre.result ≡ evaluate_at (member (state_of a.x)) begin a.rows.now.marks.now a.rows.now.values.now (a.from + 1)
read c =
    let a = c.args in
    c.condition-pre.ensures.value ∙ ap (λ (s : State). evaluate_at (member s) begin a.rows.now.marks.now a.rows.now.values.now (a.from + 1)) c.state-s.ensures

pub returns-then-not-pre : goal.returns-then-not-pre
returns-then-not-pre c = λ t k A.
    let a = c.args in
    nowhere a.rows.now.marks.now a.rows.now.values.now a.from t k A a.x c.condition-pre.result (read (goal.at.returns-then-not-pre c).After-condition-pre)
    (not-true _ c.if-not-pre.true)

pub after-next-requires : goal.after-next-requires
after-next-requires c =
    let a = c.args in
    let t = c.requires.some_action.0 in
    let k = c.requires.some_action.1 in
    (action_at t k, its_effects a.rows.now.marks.now a.rows.now.values.now a.from t k c.requires.some_action.2 (member c.state-s.result) c.condition-pre.result c.condition-pre.ensures.value)

pub returns : goal.returns
returns c = λ t k A.
    let a = c.args in
    led_to a.rows.now.marks.now a.rows.now.values.now a.from t k A a.x c.condition-pre.result (read (goal.at.returns c).After-condition-pre) (not-false _ c.if-not-pre.false)
    c.after-next.result
    (subst (λ (s : State). Changes (member s) a.rows.now.marks.now a.rows.now.values.now c.condition-pre.result.next c.after-next.result) c.state-s.ensures c.after-next.ensures.0)
    (a.x.cost + c.value.result) a.link c.requires.rows.0 (ap (λ (y : ℕ). a.x.cost + y) c.value.ensures)
