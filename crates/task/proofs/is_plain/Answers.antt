-- Each test decides a part of the conjunction: is_part's answer, what the table says of both contexts, and value_allowed's.
use borrow.Author.Rules.{rules}
use mathlib.Core.Path.{◌≡◌, sym, ◌∙◌}
use mathlib.Core.Bool.{true, false}
use borrow.Author.Tests.{not-true, not-false, eq-eqb, ne_eqb}
use Rattle.task.specs.Marks.{EFFECT, DELETE}
use Rattle.task.specs.Check.{follow}
use Rattle.task.specs.Rows.{between}
use Rattle.task.specs.Contexts.{number_or, numbered}
use Rattle.task.proofs.is_plain.Goals as goal
use Rattle.task.proofs.is_plain.Goals.{Else-led-eq-REFUSED, Else-not-is_part}

part : (c : Else-not-is_part) → between EFFECT DELETE c.args.mark ≡ true
part c = sym c.is_part.ensures ∙ not-false _ c.if-not-is_part.false-raw

-- the widest context lets the mark come
comes : (c : Else-led-eq-REFUSED) → let a = c.args in number_or (follow (numbered a.widest) a.mark) ≡ 20 → ⊥
comes c e = c.if-led-eq-REFUSED.false (c.next-led.ensures ∙ e)

pub next-led-requires : goal.next-led-requires
next-led-requires c = (c.requires.0, search rules)

pub next-requires : goal.next-requires
next-requires c = (c.requires.0, search rules)

pub returns-then-not-is_part : goal.returns-then-not-is_part
returns-then-not-is_part c =
    let e : between EFFECT DELETE c.args.mark ≡ false = sym c.is_part.ensures ∙ not-true _ c.if-not-is_part.true-raw in
    rw e

pub returns-then-led-eq-REFUSED : goal.returns-then-led-eq-REFUSED
returns-then-led-eq-REFUSED c = rw (part (goal.at.returns-then-led-eq-REFUSED c).Else-not-is_part, sym c.next-led.ensures ∙ c.if-led-eq-REFUSED.true)

pub returns-then-next-led : goal.returns-then-next-led
returns-then-next-led c =
    let a = c.args in
    rw (
      part (goal.at.returns-then-next-led c).Else-not-is_part,
      ne_eqb (number_or (follow (numbered a.widest) a.mark)) 20 (comes (goal.at.returns-then-next-led c).Else-led-eq-REFUSED),
      ne_eqb (number_or (follow (numbered a.context) a.mark)) (number_or (follow (numbered a.widest) a.mark))
          (λ e. c.if-next-led.true (c.next.ensures ∙ e ∙ sym c.next-led.ensures)),
    )

pub returns : goal.returns
returns c =
    let a = c.args in
    rw (
      part (goal.at.returns c).Else-not-is_part,
      ne_eqb (number_or (follow (numbered a.widest) a.mark)) 20 (comes (goal.at.returns c).Else-led-eq-REFUSED),
      eq-eqb (number_or (follow (numbered a.context) a.mark)) (number_or (follow (numbered a.widest) a.mark))
          (sym c.next.ensures ∙ c.if-next-led.false ∙ c.next-led.ensures),
    )
    c.value_allowed.ensures
