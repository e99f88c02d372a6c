use borrow.Author.Rules.{rules}
use mathlib.Core.Path.{sym, ap, ◌∙◌}
use Prim.Native.Nat.{ℕ}
use native.Mathlib.Omega.{arith}
use Rattle.lists.specs.Lists.{concat_map}
use Rattle.task.specs.TaskRows.{effect_rows}
use Rattle.writer.specs.Writer.{row_after}
use Rattle.writer.proofs.Putting.{then, wrote_none, wrote_past, as_rows, kept_none, kept_on}
use Rattle.singling.specs.Singled.{singled_effect}
use Rattle.single_effects.proofs.ByChoice.{picked_from, all_picked, next_picked, none_picked, few_clauses, as_many, many_fit}
use Rattle.single_effects.proofs.choosing.put_effect.Goals as goal

pub rows_of_one-requires : goal.rows_of_one-requires
rows_of_one-requires c =
    let E = c.requires.1.1 in
    let h = c.args.rows.now.fit.few in
    (omega (arith, few_clauses E), E.order.whole, omega (arith, E.order.inside))

pub overflow_mul-choices : goal.overflow_mul-choices
overflow_mul-choices c =
    record { fits = many_fit c.requires.1.1 c.rows_of_one.result c.rows_of_one.ensures c.args.rows.now.fit.few }

pub returns-then-c : goal.returns-then-c
returns-then-c c = λ e E.
    let a = c.args in
    wrote_past a.out.now a.c (concat_map effect_rows (singled_effect e)) c.advance_by.result c.requires.0 (search rules)
    (c.advance_by.ensures.0, c.advance_by.ensures.1 ∙ ap (row_after a.c.next) (as_many E c.rows_of_one.result c.rows_of_one.ensures))

pub find_longest-known-requires : goal.find_longest-known-requires
find_longest-known-requires c =
    record { inside = c.requires.1.1.condition.inside; few = c.args.rows.now.fit.few }

pub loop-j-init : goal.loop-j-init
loop-j-init c = λ e E. record { so_far = kept_none (search rules); onward = λ r o w. w }

pub put_choice-k-requires : goal.put_choice-k-requires
put_choice-k-requires c =
    let R = c.loop-j.invariant c.requires.1.0 c.requires.1.1 in
    record {
      room = (R.so_far.room, search rules, c.find_longest-known.ensures);
      effect_at = c.requires.1;
    }

pub loop-j-preserved : goal.loop-j-preserved
loop-j-preserved c = λ e E.
    let a = c.args in
    let R = c.loop-j.invariant e E in
    record {
      so_far = kept_on R.so_far c.put_choice-k.auto.out (c.put_choice-k.ensures e E);
      onward = λ r o x. R.onward r o (as_rows (next_picked e a.s.choices c.loop-j.j (search rules)) (then (c.put_choice-k.ensures e E) x));
    }

pub shape_of-out : goal.shape_of-out
shape_of-out c =
    (c.loop-j.invariant c.requires.1.0 c.requires.1.1).so_far.size

pub returns : goal.returns
returns c = λ e E.
    let a = c.args in
    let R = c.loop-j.invariant e E in
    as_rows (ap (λ (n : ℕ). picked_from e n 0) E.choices ∙ sym (all_picked e))
    (R.onward c.loop-j.k c.loop-j.out (as_rows (sym (none_picked e a.s.choices c.loop-j.j (search rules))) (wrote_none R.so_far.room)))
