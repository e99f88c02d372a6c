-- One literal stands alone, by `single`; none or several stand under `or`, by `several`.
use mathlib.Core.Path.{◌≡◌, sym, ◌∙◌}
use mathlib.Core.Bool.{true, false, not, ◌&&◌}
use Prim.Native.Nat.{◌+◌, ◌<◌}
use native.Mathlib.Omega.{arith}
use lib.ListN.{length}
use Rattle.text.proofs.Writing.{then}
use Rattle.pddl_parts.proofs.ClauseRows.{alone, first_there, single, several}
use borrow.Author.Rules.{rules}
use Rattle.pddl_parts.proofs.conditions.put_clause.Goals as goal
use Rattle.pddl_parts.proofs.conditions.put_clause.Goals.{After-has_mark-two, Else-one-two, Then-one-two}

-- whether the clause has one literal
tests : (c : After-has_mark-two) → let a = c.args in
    (c.has_mark-one.result && not c.has_mark-two.result) ≡ alone a.rows.now.marks.now a.rows.now.values.now a.from
tests c = λ z. c.has_mark-one.ensures z && not (c.has_mark-two.ensures z)

lone : (c : Then-one-two) → let a = c.args in alone a.rows.now.marks.now a.rows.now.values.now a.from ≡ true
lone c =
    let tests' : let a = c.args in (c.has_mark-one.result && not c.has_mark-two.result) ≡ alone a.rows.now.marks.now a.rows.now.values.now a.from = λ z. c.has_mark-one.ensures z && not (c.has_mark-two.ensures z) in sym tests' ∙ c.if-one-two.true

not_lone : (c : Else-one-two) → let a = c.args in alone a.rows.now.marks.now a.rows.now.values.now a.from ≡ false
not_lone c =
    let tests' : let a = c.args in (c.has_mark-one.result && not c.has_mark-two.result) ≡ alone a.rows.now.marks.now a.rows.now.values.now a.from = λ z. c.has_mark-one.ensures z && not (c.has_mark-two.ensures z) in sym tests' ∙ c.if-one-two.false

within : (c : Then-one-two) → let a = c.args in a.from + 1 < length a.rows.now.marks.now
within c = let a = c.args in first_there a.rows.now.marks.now a.rows.now.values.now a.from (lone c)

pub bounds-rows-i : goal.bounds-rows-i
bounds-rows-i c = within (goal.at.bounds-rows-i c).Then-one-two

pub value-requires : goal.value-requires
value-requires c = let h = within (goal.at.value-requires c).Then-one-two in search rules

pub returns-then-one-two : goal.returns-then-one-two
returns-then-one-two c =
    let a = c.args in
    let h = within (goal.at.returns-then-one-two c).Then-one-two in
    record {
      piece_answer = single a.rows.now.marks.now a.rows.now.values.now a.from (lone (goal.at.returns-then-one-two c).Then-one-two) c.value.ensures c.put_row-k.ensures.wrote;
      from_lt_next = (omega arith, omega (arith, h), omega (arith, c.put_row-k.ensures.upper_bound));
    }

pub returns : goal.returns
returns c =
    let a = c.args in
    let text = then c.put_bytes-k.ensures (then c.put_list-s.ensures.wrote c.put_byte-k.ensures) in
    let read = c.put_list-s.ensures.from_le_next in record {
      piece_answer = several a.rows.now.marks.now a.rows.now.values.now a.from (not_lone (goal.at.returns c).Else-one-two) text c.put_list-s.ensures.next_value;
      from_lt_next = (omega (arith, read.0), read.1, omega (arith, c.put_bytes-k.ensures.after, read, c.put_byte-k.ensures.after));
    }
