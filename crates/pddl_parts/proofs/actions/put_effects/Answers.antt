use borrow.Author.Rules.{rules}
use mathlib.Core.Path.{sym, ◌∙◌}
use Prim.Native.Nat.{◌+◌, ◌<◌}
use lib.ListN.{length}
use Rattle.pddl_parts.proofs.Listing.{there}
use Rattle.pddl_parts.proofs.Emitting.{prefix, looping, loop_part, looped, all_done}
use Rattle.pddl_parts.proofs.EffectRows.{effect_parts}
use Rattle.pddl_parts.proofs.actions.put_effects.Goals as goal
use Rattle.pddl_parts.proofs.actions.put_effects.Goals.{In-loop-out}

-- the row that opens an effect is there
read : (c : In-loop-out) → let a = c.args in c.loop-out.i < length a.rows.now.marks.now
read c =
    let a = c.args in
    (there 2 2 a.rows.now.marks.now c.loop-out.i (sym c.has_mark.ensures ∙ c.loop-out-test.true)).0

pub loop-out-init : goal.loop-out-init
loop-out-init c =
    let a = c.args in
    (search rules, 0, looping effect_parts a.rows.now.marks.now a.rows.now.values.now a.out.now a.at a.from (search rules))

pub put_byte-k-requires : goal.put_byte-k-requires
put_byte-k-requires c = let h = read (goal.at.put_byte-k-requires c).In-loop-out in search rules

pub put_effect-s-requires : goal.put_effect-s-requires
put_effect-s-requires c =
    let h = read (goal.at.put_effect-s-requires c).In-loop-out in
    (search rules, h, loop_part c.loop-out.invariant.2 (sym c.has_mark.ensures ∙ c.loop-out-test.true) c.requires.1)

pub loop-out-preserved : goal.loop-out-preserved
loop-out-preserved c =
    let inv = c.loop-out.invariant in
    let h = read (goal.at.loop-out-preserved c).In-loop-out in
    let after = c.put_effect-s.ensures.from_lt_next in (
      search rules,
      inv.1 + 1,
      looped inv.2 (sym c.has_mark.ensures ∙ c.loop-out-test.true) (prefix c.put_byte-k.ensures c.put_effect-s.ensures.piece_answer) (search rules) after.0 after.1,
    )

pub shape_of-out : goal.shape_of-out
shape_of-out c = c.loop-out.invariant.2.size

pub returns : goal.returns
returns c =
    let inv = c.loop-out.invariant in
    record {
      piece_answer = all_done inv.2 (sym c.has_mark.ensures ∙ c.loop-out-test.false);
      from_le_next = (inv.2.begun, inv.2.rows_left, inv.0);
    }
