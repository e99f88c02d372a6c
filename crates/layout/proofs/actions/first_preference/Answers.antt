use borrow.Author.Rules.{rules}
use mathlib.Core.Path.{◌≡◌, sym, ◌∙◌}
use native.Mathlib.Omega.{arith}
use lib.ListN.{length}
use native.Mathlib.Nat.{zero-add}
use Rattle.task.specs.File.{opens_preference}
use Rattle.layout.proofs.Seeking.{take_until_here, take_until_on, take_until_end}
use Rattle.layout.proofs.actions.first_preference.Goals as goal

pub loop-i-init : goal.loop-i-init
loop-i-init c = (search rules, zero-add _)

pub returns-then-is_preference : goal.returns-then-is_preference
returns-then-is_preference c = (
  sym (take_until_here opens_preference c.args.marks.now c.loop-i.i (search rules)
      (sym c.is_preference.ensures ∙ c.if-is_preference.true))
      ∙ c.loop-i.invariant.1,
  search rules,
)

pub loop-i-preserved : goal.loop-i-preserved
loop-i-preserved c = (
  search rules,
  take_until_on opens_preference c.args.marks.now c.loop-i.i (search rules)
      (sym c.is_preference.ensures ∙ c.if-is_preference.false)
      ∙ c.loop-i.invariant.1,
)

pub returns : goal.returns
returns c =
    let ms = c.args.marks.now in
    let at_end : length ms ≡ c.loop-i.i = omega arith in
    (at_end ∙ sym (take_until_end opens_preference ms c.loop-i.i (search rules)) ∙ c.loop-i.invariant.1, search rules)
