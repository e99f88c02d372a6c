use borrow.Author.Rules.{rules}
use mathlib.Core.Path.{sym, ◌∙◌}
use Prim.Native.Nat.{◌<◌}
use lib.ListN.{length}
use Rattle.pddl_parts.proofs.Listing.{there}
use Rattle.pddl_parts.proofs.Emitting.{looping, loop_part, looped, all_done}
use Rattle.pddl_parts.proofs.LineRows.{action_parts}
use Rattle.pddl_parts.proofs.actions.put_actions.Goals as goal
use Rattle.pddl_parts.proofs.actions.put_actions.Goals.{In-loop-out}

-- the row that opens an action is there
read : (c : In-loop-out) → let a = c.args in c.loop-out.i < length a.rows.now.marks.now
read c =
    let a = c.args in
    (there 1 1 a.rows.now.marks.now c.loop-out.i (sym c.has_mark.ensures ∙ c.loop-out-test.true)).0

pub loop-out-init : goal.loop-out-init
loop-out-init c =
    let a = c.args in
    (search rules, search rules, looping action_parts a.rows.now.marks.now a.rows.now.values.now a.out.now a.at a.from (search rules))

pub put_action-s-requires : goal.put_action-s-requires
put_action-s-requires c =
    let L = c.loop-out.invariant.2 in
    let h = read (goal.at.put_action-s-requires c).In-loop-out in
    let begun = L.begun in
    (search rules, h, loop_part L (sym c.has_mark.ensures ∙ c.loop-out-test.true) c.requires.1)

pub overflow_add-n : goal.overflow_add-n
overflow_add-n c =
    let b = c.loop-out.invariant.2.rows_left in
    search rules

pub loop-out-smaller : goal.loop-out-smaller
loop-out-smaller c = let h = read (goal.at.loop-out-smaller c).In-loop-out in search rules

pub loop-out-preserved : goal.loop-out-preserved
loop-out-preserved c =
    let L = c.loop-out.invariant.2 in
    let h = read (goal.at.loop-out-preserved c).In-loop-out in
    let begun = L.begun in
    let after = c.put_action-s.ensures.from_lt_next in
    (search rules, search rules, looped L (sym c.has_mark.ensures ∙ c.loop-out-test.true) c.put_action-s.ensures.piece_answer (search rules) after.0 after.1)

pub shape_of-out : goal.shape_of-out
shape_of-out c = c.loop-out.invariant.2.size

pub returns : goal.returns
returns c =
    let inv = c.loop-out.invariant in
    record {
      piece_answer = all_done inv.2 (sym c.has_mark.ensures ∙ c.loop-out-test.false);
      from_le_next = (inv.2.begun, inv.2.rows_left, inv.0);
    }
