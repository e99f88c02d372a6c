use borrow.Author.Rules.{rules}
use borrow.Author.Tests.{eq-eqb, ne_eqb}
use mathlib.Core.Path.{◌≡◌, sym, ap, ◌∙◌}
use Prim.Native.Nat.{◌+◌}
use native.Mathlib.Omega.{arith}
use lib.ListN.{length, get_or}
use Rattle.task.specs.Marks.{START}
use Rattle.meaning.specs.Meaning.{State as Facts}
use Rattle.task.proofs.Reading.{goes_on, stops_at, ends_at}
use Rattle.state.specs.Member.{member}
use Rattle.reading.specs.Opening.{open_row, opened, open_at}
use Rattle.reading.proofs.OpeningRows.{is_start}
use Rattle.reading.proofs.opening.opening.Goals as goal

pub loop-i-init : goal.loop-i-init
loop-i-init c = let a = c.args in ap (λ (f : Facts). open_at f a.rows.now.marks.now a.rows.now.values.now 0) c.none-s.ensures

pub returns-then-rows-i-ne-START : goal.returns-then-rows-i-ne-START
returns-then-rows-i-ne-START c =
    let a = c.args in
    sym (stops_at open_row is_start opened (member c.loop-i.s) a.rows.now.marks.now a.rows.now.values.now c.loop-i.i (search rules)
    (ne_eqb (get_or a.rows.now.marks.now c.loop-i.i 0) START c.if-rows-i-ne-START.true))
    ∙ c.loop-i.invariant

pub loop-i-preserved : goal.loop-i-preserved
loop-i-preserved c =
    let a = c.args in
    ap (λ (f : Facts). open_at f a.rows.now.marks.now a.rows.now.values.now (c.loop-i.i + 1)) (c.with-s.ensures ∙ rw c.value.ensures)
    ∙ sym (goes_on open_row is_start opened (member c.loop-i.s) a.rows.now.marks.now a.rows.now.values.now c.loop-i.i (search rules)
    (eq-eqb (get_or a.rows.now.marks.now c.loop-i.i 0) START c.if-rows-i-ne-START.false))
    ∙ c.loop-i.invariant

pub returns : goal.returns
returns c =
    let a = c.args in
    let at_end : length a.rows.now.marks.now ≡ c.loop-i.i = omega arith in
    ap (opened (member c.loop-i.s)) at_end
    ∙ sym (ends_at open_row is_start opened (member c.loop-i.s) a.rows.now.marks.now a.rows.now.values.now c.loop-i.i (search rules))
    ∙ c.loop-i.invariant
