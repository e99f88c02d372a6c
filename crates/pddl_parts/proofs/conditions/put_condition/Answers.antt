use borrow.Author.Rules.{rules}
use mathlib.Core.Path.{sym, ◌∙◌}
use Prim.Native.Nat.{◌+◌, ◌<◌}
use native.Mathlib.Omega.{arith}
use lib.ListN.{length}
use Rattle.pddl_parts.proofs.Listing.{there}
use Rattle.pddl_parts.proofs.Emitting.{prefix, enclose, looping, loop_part, looped, all_done}
use Rattle.pddl_parts.proofs.ClauseRows.{clause_parts}
use Rattle.pddl_parts.proofs.conditions.put_condition.Goals as goal
use Rattle.pddl_parts.proofs.conditions.put_condition.Goals.{In-loop-out}

-- the row that opens a clause is there
read : (c : In-loop-out) → let a = c.args in
    c.loop-out.i < length a.rows.now.marks.now
read c =
    let a = c.args in
    (there 3 3 a.rows.now.marks.now c.loop-out.i (sym c.has_mark.ensures ∙ c.loop-out-test.true)).0

pub loop-out-init : goal.loop-out-init
loop-out-init c =
    let a = c.args in
    (search rules, search rules, 0, looping clause_parts a.rows.now.marks.now a.rows.now.values.now c.put_bytes-k.new.out c.put_bytes-k.result a.from (search rules))

pub put_byte-k-requires : goal.put_byte-k-requires
put_byte-k-requires c = let h = read (goal.at.put_byte-k-requires c).In-loop-out in search rules

pub put_clause-s-requires : goal.put_clause-s-requires
put_clause-s-requires c =
    let h = read (goal.at.put_clause-s-requires c).In-loop-out in
    (search rules, h, loop_part c.loop-out.invariant.3 (sym c.has_mark.ensures ∙ c.loop-out-test.true) c.requires.1)

pub loop-out-preserved : goal.loop-out-preserved
loop-out-preserved c =
    let inv = c.loop-out.invariant in
    let h = read (goal.at.loop-out-preserved c).In-loop-out in
    let after = c.put_clause-s.ensures.from_lt_next in (
      search rules,
      inv.1,
      inv.2 + 1,
      looped inv.3 (sym c.has_mark.ensures ∙ c.loop-out-test.true) (prefix c.put_byte-k.ensures c.put_clause-s.ensures.piece_answer) (search rules) after.0 after.1,
    )

pub returns : goal.returns
returns c =
    let L = c.loop-out.invariant.3 in
    let text = all_done L (sym c.has_mark.ensures ∙ c.loop-out-test.false) in
    record {
      piece_answer = enclose c.put_bytes-k.ensures text c.put_byte-k-2.ensures;
      from_le_next = (L.begun, L.rows_left, omega (arith, c.loop-out.invariant.0, c.loop-out.invariant.1, c.put_byte-k-2.ensures.after));
    }
