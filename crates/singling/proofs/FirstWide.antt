-- The place of a refusal by 17 is the first EFFECT row whose condition has over 64 choices.
use mathlib.Core.Path.{◌≡◌, refl, subst}
use mathlib.Core.Bool.{Bool, true, false, cond, ◌&&◌}
use mathlib.Core.List.{List, [], ◌∷◌}
use mathlib.Core.Option.{some, none-ne-some, some-injective}
use Prim.Native.Nat.{ℕ, zero, suc, ◌+◌, ◌<◌}
use native.Mathlib.Omega.{arith}
use native.Mathlib.Nat.{le_of_suc-le-suc, not-suc-le-zero}
use Rattle.task.specs.Marks.{EFFECT}
use Rattle.task.specs.TaskRows.{Row}
use Rattle.task.specs.File.{has_mark}
use Rattle.singling.specs.Wide.{is_wide, condition_here, first_wide, wide_at, FirstWide}

found : (k : ℕ) (xs : List Row) (j : ℕ) → first_wide k xs ≡ some j → (i : ℕ) × (j ≡ k + i) × FirstWide xs i
found k [] j e = absurd (none-ne-some j e)
found k (x ∷ xs) j e = go (has_mark EFFECT x && is_wide (condition_here xs)) refl e (found (suc k) xs j)
  where
    go : (b : Bool) → (has_mark EFFECT x && is_wide (condition_here xs)) ≡ b → cond b (some k) (first_wide (suc k) xs) ≡ some j
        → (first_wide (suc k) xs ≡ some j → (i : ℕ) × (j ≡ suc k + i) × FirstWide xs i)
        → (i : ℕ) × (j ≡ k + i) × FirstWide (x ∷ xs) i
    go true q e rest =
        let same : k ≡ j = some-injective k j e in
        (0, omega arith, record { within = omega arith; here = q; before = λ i h. absurd (not-suc-le-zero h) })
    go false q e rest =
        let r : (i : ℕ) × (j ≡ suc k + i) × FirstWide xs i = rest e in (
          suc r.0,
          omega (arith, r.1),
          record {
            within = omega (arith, r.2.within);
            here = r.2.here;
            before = earlier r.0 r.2.before;
          },
        )
      where
        earlier : (n : ℕ) → ((i : ℕ) → i < n → wide_at xs i ≡ false) → (i : ℕ) → i < suc n → wide_at (x ∷ xs) i ≡ false
        earlier n before zero h = q
        earlier n before (suc i) h = before i (le_of_suc-le-suc h)

pub first_wide_lem : (xs : List Row) (i : ℕ) → first_wide 0 xs ≡ some i → FirstWide xs i
first_wide_lem xs i e =
    let r : (j : ℕ) × (i ≡ 0 + j) × FirstWide xs j = found 0 xs i e in
    let same : r.0 ≡ i = omega (arith, r.1) in
    subst (FirstWide xs) same r.2
