-- What the readers of a condition and of effects give is one step of the task, by `Stepping`.
use borrow.Author.Rules.{rules}
use borrow.Author.Tests.{not-true, not-false}
use mathlib.Core.Path.{ap}
use Prim.Native.Nat.{ℕ, ◌+◌}
use Rattle.meaning.specs.Meaning.{action_at}
use Rattle.state.specs.Member.{member}
use Rattle.monitors.proofs.TaskRead.{its_effects}
use Rattle.plan.specs.Steps.{state_of}
use Rattle.plan.proofs.Stepping.{stopped, led}
use Rattle.plan.proofs.steps.step.Goals as goal

pub returns-then-not-pre : goal.returns-then-not-pre
returns-then-not-pre c =
    let a = c.args in record {
      little = tt;
      step_answer = λ t k A. stopped a.rows.now.marks.now a.rows.now.values.now a.from t k A a.p
          c.condition-pre.result c.condition-pre.ensures.value (not-true _ c.if-not-pre.true);
    }

pub after-next-requires : goal.after-next-requires
after-next-requires c =
    let a = c.args in
    let t = c.requires.some_action.0 in
    let k = c.requires.some_action.1 in
    (action_at t k, its_effects a.rows.now.marks.now a.rows.now.values.now a.from t k c.requires.some_action.2 (member (state_of a.p)) c.condition-pre.result c.condition-pre.ensures.value)

pub returns : goal.returns
returns c =
    let a = c.args in record {
      little = (search rules, search rules);
      step_answer = λ t k A. led a.rows.now.marks.now a.rows.now.values.now a.from t k A a.p
          c.condition-pre.result c.condition-pre.ensures.value (not-false _ c.if-not-pre.false) c.after-next.result c.after-next.ensures.0
          _ c.requires.rows.0 (ap (λ (x : ℕ). a.p.cost + x) c.value.ensures);
    }
