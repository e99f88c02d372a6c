-- The words, the numbers, the precondition and the effects make the line, by `line_put`.
use native.Mathlib.Omega.{arith}
use Rattle.pddl_parts.proofs.LineRows.{its_precondition, its_effects, line_put}
use borrow.Author.Rules.{rules}
use Rattle.pddl_parts.proofs.actions.put_action.Goals as goal

pub put_condition-c-requires : goal.put_condition-c-requires
put_condition-c-requires c =
    let a = c.args in
    (search rules, its_precondition a.rows.now.marks.now a.rows.now.values.now a.from c.requires.2)

pub put_effects-s-requires : goal.put_effects-s-requires
put_effects-s-requires c =
    let a = c.args in
    (search rules, its_effects a.rows.now.marks.now a.rows.now.values.now a.from c.put_condition-c.ensures.piece_answer c.requires.2)

pub put_bytes-k-requires : goal.put_bytes-k-requires
put_bytes-k-requires c =
    omega (arith, c.put_head-k.ensures.upper_bound, c.put_condition-c.ensures.from_le_next, c.put_cost-k.ensures.upper_bound, c.put_effects-s.ensures.from_le_next, c.requires.0.room, c.requires.1)

pub returns : goal.returns
returns c =
    let a = c.args in record {
      piece_answer = line_put a.number a.rows.now.marks.now a.rows.now.values.now a.from c.requires.1 c.put_head-k.ensures.wrote c.put_condition-c.ensures.piece_answer
          c.value-cost.ensures c.put_cost-k.ensures.wrote c.put_effects-s.ensures.piece_answer c.put_bytes-k.ensures;
      from_lt_next = (
        omega (arith, c.put_condition-c.ensures.from_le_next, c.put_effects-s.ensures.from_le_next),
        c.put_effects-s.ensures.from_le_next.1,
        omega (arith, c.put_head-k.ensures.upper_bound, c.put_condition-c.ensures.from_le_next, c.put_cost-k.ensures.upper_bound, c.put_effects-s.ensures.from_le_next, c.put_bytes-k.ensures.after),
      );
    }
