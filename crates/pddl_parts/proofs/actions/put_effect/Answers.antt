-- The words, the condition and the changes make the effect, by `effect_put`.
use native.Mathlib.Omega.{arith}
use Rattle.pddl_parts.proofs.EffectRows.{its_condition, effect_put}
use borrow.Author.Rules.{rules}
use Rattle.pddl_parts.proofs.actions.put_effect.Goals as goal

pub put_condition-c-requires : goal.put_condition-c-requires
put_condition-c-requires c =
    let a = c.args in
    (search rules, its_condition a.rows.now.marks.now a.rows.now.values.now a.from c.requires.2)

pub put_bytes-k-requires-3 : goal.put_bytes-k-requires-3
put_bytes-k-requires-3 c =
    omega (arith, c.put_bytes-k.ensures.after, c.put_condition-c.ensures.from_le_next, c.put_bytes-k-2.ensures.after, c.put_list-s.ensures.from_le_next, c.requires.0.room, c.requires.1)

pub returns : goal.returns
returns c =
    let a = c.args in record {
      piece_answer = effect_put a.rows.now.marks.now a.rows.now.values.now a.from c.put_bytes-k.ensures c.put_condition-c.ensures.piece_answer c.put_bytes-k-2.ensures
          c.put_list-s.ensures.wrote c.put_bytes-k-3.ensures c.put_list-s.ensures.next_value;
      from_lt_next = (
        omega (arith, c.put_condition-c.ensures.from_le_next, c.put_list-s.ensures.from_le_next),
        c.put_list-s.ensures.from_le_next.1,
        omega (arith, c.put_bytes-k.ensures.after, c.put_condition-c.ensures.from_le_next, c.put_bytes-k-2.ensures.after, c.put_list-s.ensures.from_le_next, c.put_bytes-k-3.ensures.after),
      );
    }
