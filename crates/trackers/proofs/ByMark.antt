-- The trackers that each mark has.
use mathlib.Core.Path.{◌≡◌, refl, sym}
use mathlib.Core.Bool.{Bool, true, false, not, ◌&&◌, ◌||◌, true≢false}
use mathlib.Core.List.{List, []}
use Prim.Native.Nat.{ℕ, ◌≤◌, ◌<◌}
use native.Mathlib.Omega.{arith}
use lib.Dec.{eqb}
use borrow.Author.Tests.{ne_eqb, le-leb, lt-leb, eqb-true}
use Rattle.task.specs.Marks.{AT_END}
use Rattle.task.specs.TaskRows.{Row}
use Rattle.kind_trackers.specs.declared.Facts.{Facts}
use Rattle.kind_trackers.specs.Rows.{always_rows, reached_rows, once_rows, before_rows, after_rows, within_rows, soon_rows, tracker_rows}

module _ (m t : ℕ) (last : Bool) (f : Facts) (xs ys : List Row) where
  pub by_always : m ≡ 10 → always_rows f xs ys ≡ tracker_rows m t last f xs ys
  unfolding tracker_rows
  by_always e = rw e

  pub by_once : m ≡ 13 → once_rows f xs ys ≡ tracker_rows m t last f xs ys
  unfolding tracker_rows
  by_once e = rw e

  pub by_before : m ≡ 14 → before_rows f xs ys ≡ tracker_rows m t last f xs ys
  unfolding tracker_rows
  by_before e = rw e

  pub by_after : m ≡ 15 → after_rows f xs ys ≡ tracker_rows m t last f xs ys
  unfolding tracker_rows
  by_after e = rw e

  pub by_within : m ≡ 17 → within_rows f t xs ys ≡ tracker_rows m t last f xs ys
  unfolding tracker_rows
  by_within e = rw e

  pub by_soon : m ≡ 18 → soon_rows f t xs ys ≡ tracker_rows m t last f xs ys
  unfolding tracker_rows
  by_soon e = rw e

  pub by_reached : 10 ≤ m → (m ≡ 10 → ⊥) → m < 13 → reached_rows f (eqb m 11 || last) xs ys ≡ tracker_rows m t last f xs ys
  unfolding tracker_rows
  by_reached l n h =
      let low : 11 ≤ m = omega (arith, l, n) in
      let high : m ≤ 12 = omega (arith, h) in
      rw (
        ne_eqb m 10 n,
        ne_eqb m 13 (λ e. omega arith),
        ne_eqb m 14 (λ e. omega arith),
        ne_eqb m 15 (λ e. omega arith),
        ne_eqb m 17 (λ e. omega arith),
        ne_eqb m 18 (λ e. omega arith),
        le-leb 11 m low,
        le-leb m 12 high,
      )

  pub by_below : (m ≡ 10 → ⊥) → m < 11 → [] ≡ tracker_rows m t last f xs ys
  unfolding tracker_rows
  by_below n h =
      rw (
        ne_eqb m 10 n,
        ne_eqb m 13 (λ e. omega arith),
        ne_eqb m 14 (λ e. omega arith),
        ne_eqb m 15 (λ e. omega arith),
        ne_eqb m 17 (λ e. omega arith),
        ne_eqb m 18 (λ e. omega arith),
        lt-leb 11 m h,
      )

  pub by_above : (m ≡ 13 → ⊥) → (m ≡ 14 → ⊥) → (m ≡ 15 → ⊥) → (m ≡ 17 → ⊥) → (m ≡ 18 → ⊥) → 12 < m → [] ≡ tracker_rows m t last f xs ys
  unfolding tracker_rows
  by_above n₁ n₂ n₃ n₄ n₅ h =
      let l : 11 ≤ m = omega arith in
      rw (
        ne_eqb m 10 (λ e. omega arith),
        ne_eqb m 13 n₁,
        ne_eqb m 14 n₂,
        ne_eqb m 15 n₃,
        ne_eqb m 17 n₄,
        ne_eqb m 18 n₅,
        le-leb 11 m l,
        lt-leb m 12 h,
      )

  -- at-end has no trackers but in end
  pub not_in_end : eqb m AT_END && not last ≡ true → [] ≡ tracker_rows m t last f xs ys
  unfolding tracker_rows
  not_in_end e = go (eqb m AT_END) refl last e
    where
      go : (u : Bool) → eqb m AT_END ≡ u → (l : Bool) → u && not l ≡ true → [] ≡ tracker_rows m t l f xs ys
      go true p false q = rw (eqb-true m AT_END p) refl
      go true p true q = absurd (true≢false (sym q))
      go false p l q = absurd (true≢false (sym q))
