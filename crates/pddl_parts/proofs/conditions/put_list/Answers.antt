use borrow.Author.Rules.{rules}
use mathlib.Core.Path.{◌≡◌, refl, sym, ◌∙◌}
use mathlib.Core.List.{[]}
use native.Mathlib.Omega.{arith}
use lib.ListN.{length}
use Rattle.text.proofs.Writing.{no_bytes}
use Rattle.pddl_parts.proofs.Listing.{listed_all, none_past, one_more}
use Rattle.pddl_parts.proofs.conditions.put_list.Goals as goal

pub loop-i-init : goal.loop-i-init
loop-i-init c =
    let a = c.args in
    record { begun = search rules; rows_left = search rules; little = search rules; text = []; wrote = no_bytes a.out.now a.at; same = refl }

pub loop-i-preserved : goal.loop-i-preserved
loop-i-preserved c =
    one_more c.loop-i.invariant (sym c.has_mark.ensures ∙ c.if-not-has_mark.false) c.put_byte-k.ensures c.value.ensures c.put_row-k.ensures.wrote c.put_row-k.ensures.upper_bound

pub returns-then-not-has_mark : goal.returns-then-not-has_mark
returns-then-not-has_mark c =
    let L = c.loop-i.invariant in
    let e = listed_all L (sym c.has_mark.ensures ∙ c.if-not-has_mark.true) in
    record {
      wrote = e.0;
      next_value = e.1;
      from_le_next = (L.begun, L.rows_left, L.little);
    }

pub returns : goal.returns
returns c =
    let a = c.args in
    let L = c.loop-i.invariant in
    let last : length a.rows.now.marks.now ≡ c.loop-i.i = omega (arith, L.rows_left, c.loop-i-test.false) in
    let e = listed_all L (none_past a.least a.most a.rows.now.marks.now c.loop-i.i c.loop-i-test.false) in
    record {
      wrote = e.0;
      next_value = last ∙ e.1;
      from_le_next = (c.requires.within, search rules, omega (arith, L.little, last));
    }
