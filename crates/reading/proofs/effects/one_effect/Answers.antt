-- The condition, the ADD rows and the DELETE rows make one effect more: gathered_with of EffectRows; all lie within the rows.
use Prim.Native.Nat.{◌+◌, ◌<◌, ◌≤◌}
use native.Mathlib.Omega.{arith}
use mathlib.Core.Path.{◌≡◌, refl}
use lib.ListN.{length}
use borrow.Author.Rules.{rules}
use Rattle.state.specs.Member.{member}
use Rattle.reading.specs.Effects.{Gathers}
use Rattle.reading.specs.declared.effects.Gathered.{Gathered}
use Rattle.reading.proofs.ConditionRows.{condition_within}
use Rattle.reading.proofs.EffectRows.{gathered_with}
use Rattle.reading.proofs.effects.one_effect.Goals as goal
use Rattle.reading.proofs.effects.one_effect.Goals.{After-condition-c, After-mark_all-d}

-- the condition ends within the rows
ends : (c : After-condition-c) → c.condition-c.result.next ≤ length c.args.rows.now.marks.now
ends c =
    condition_within (member c.args.s) c.args.rows.now.marks.now c.args.rows.now.values.now (c.args.i + 1) (search rules)
    c.condition-c.result c.condition-c.ensures.value

pub mark_all-a-requires : goal.mark_all-a-requires
mark_all-a-requires c = let h = ends c in search rules

-- no more literals were looked at than rows were read
few : (c : After-mark_all-d) → c.args.g.looked + c.condition-c.result.looked ≤ c.mark_all-d.result.next
few c =
    omega (
      arith,
      c.requires.rows.1,
      c.condition-c.ensures.looked_bound,
      c.mark_all-a.ensures.at_le_next,
      c.mark_all-d.ensures.at_le_next,
    )

pub overflow_add-looked : goal.overflow_add-looked
overflow_add-looked c = let h = few (goal.at.overflow_add-looked c).After-mark_all-d in search rules

-- the effect's facts, literals and rows, put together
gathered : (c : After-mark_all-d)
    → let b = c.args in
    (r : Gathered) → r.adds ≡ c.mark_all-a.result.state → r.deletes ≡ c.mark_all-d.result.state
    → r.looked ≡ b.g.looked + c.condition-c.result.looked → r.next ≡ c.mark_all-d.result.next
    → ((b.i < r.next) × (r.looked ≤ r.next) × (r.next ≤ length b.rows.now.marks.now)) × Gathers (member b.s) b.rows.now.marks.now b.rows.now.values.now b.i b.g r
gathered c r added deleted looks next =
    let b = c.args in (
      (
        omega (arith, next, c.condition-c.ensures.looked_bound, c.mark_all-a.ensures.at_le_next, c.mark_all-d.ensures.at_le_next),
        omega (arith, looks, next, few c),
        omega (arith, next, c.mark_all-d.ensures.at_le_next),
      ),
      λ e E. gathered_with (member b.s) b.rows.now.marks.now b.rows.now.values.now b.i b.g c.condition-c.result c.condition-c.ensures.value
          c.mark_all-a.result c.mark_all-d.result c.mark_all-a.ensures.result_value c.mark_all-d.ensures.result_value e E.rest E.spelled E.stops r added deleted looks next,
    )

pub returns : goal.returns
returns c = record {
  i_lt_next = (gathered (goal.at.returns c).After-mark_all-d _ refl refl refl refl).0;
  gathers = (gathered (goal.at.returns c).After-mark_all-d _ refl refl refl refl).1;
}
