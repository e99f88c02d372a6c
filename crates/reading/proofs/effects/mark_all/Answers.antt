use borrow.Author.Rules.{rules}
use mathlib.Core.Path.{◌≡◌, refl, sym, ap, ◌∙◌}
use Prim.Native.Nat.{ℕ, ◌+◌}
use native.Mathlib.Omega.{arith}
use lib.ListN.{length}
use borrow.Author.Tests.{eq-eqb, ne_eqb}
use lib.Dec.{eqb}
use Rattle.meaning.specs.Meaning.{State as Facts}
use Rattle.task.proofs.Reading.{goes_on, stops_at, ends_at}
use Rattle.state.specs.Member.{member}
use Rattle.reading.specs.Effects.{ending, mark_row, mark_at}
use Rattle.reading.proofs.effects.mark_all.Goals as goal

pub loop-i-init : goal.loop-i-init
loop-i-init c = (search rules, search rules, refl)

pub returns-then-rows-i : goal.returns-then-rows-i
returns-then-rows-i c =
    let a = c.args in record {
      result_value = sym (stops_at (mark_row a.fires) (λ (n : ℕ). eqb n a.mark) ending (member c.loop-i.f) a.rows.now.marks.now a.rows.now.values.now c.loop-i.i (search rules)
          (ne_eqb _ _ c.if-rows-i.true))
          ∙ c.loop-i.invariant.2;
      at_le_next = search rules;
    }

pub loop-i-preserved : goal.loop-i-preserved
loop-i-preserved c =
    let a = c.args in (
      search rules,
      search rules,
      ap (λ (g : Facts). mark_at a.mark a.fires g a.rows.now.marks.now a.rows.now.values.now (c.loop-i.i + 1))
          (c.with_if-f.ensures ∙ rw c.value.ensures)
          ∙ sym (goes_on (mark_row a.fires) (λ (n : ℕ). eqb n a.mark) ending (member c.loop-i.f) a.rows.now.marks.now a.rows.now.values.now c.loop-i.i (search rules)
          (eq-eqb _ _ c.if-rows-i.false))
          ∙ c.loop-i.invariant.2,
    )

pub returns : goal.returns
returns c =
    let a = c.args in
    let at_end : length a.rows.now.marks.now ≡ c.loop-i.i = omega arith in record {
      result_value = ap (ending (member c.loop-i.f)) at_end
          ∙ sym (ends_at (mark_row a.fires) (λ (n : ℕ). eqb n a.mark) ending (member c.loop-i.f) a.rows.now.marks.now a.rows.now.values.now c.loop-i.i (search rules))
          ∙ c.loop-i.invariant.2;
      at_le_next = search rules;
    }
