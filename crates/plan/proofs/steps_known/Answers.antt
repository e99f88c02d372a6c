use borrow.Author.Rules.{rules}
use mathlib.Core.Path.{◌≡◌, sym, ◌∙◌}
use lib.ListN.{length}
use native.Mathlib.Nat.{zero-add}
use native.Mathlib.Omega.{arith}
use lib.Dec.{leb}
use borrow.Author.Tests.{le-leb, lt-leb}
use Rattle.layout.proofs.Seeking.{take_until_here, take_until_on, take_until_end}
use Rattle.plan.proofs.steps_known.Goals as goal

pub loop-i-init : goal.loop-i-init
loop-i-init c = zero-add _

pub returns-then-actions-step_index : goal.returns-then-actions-step_index
returns-then-actions-step_index c =
    let a = c.args in
    sym (take_until_here (leb a.actions) a.plan.now c.loop-i.i (search rules)
    (le-leb a.actions _ (omega (arith, c.if-actions-step_index.true, c.step_index.ensures))))
    ∙ c.loop-i.invariant

pub loop-i-preserved : goal.loop-i-preserved
loop-i-preserved c =
    let a = c.args in
    take_until_on (leb a.actions) a.plan.now c.loop-i.i (search rules)
    (lt-leb a.actions _ (omega (arith, c.if-actions-step_index.false, c.step_index.ensures)))
    ∙ c.loop-i.invariant

pub returns : goal.returns
returns c =
    let a = c.args in
    let at_end : length a.plan.now ≡ c.loop-i.i = omega arith in
    at_end ∙ sym (take_until_end (leb a.actions) a.plan.now c.loop-i.i (search rules)) ∙ c.loop-i.invariant
