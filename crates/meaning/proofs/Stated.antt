-- What met computes is what document 01 says of the states by their numbers.
use mathlib.Core.List.{map, List, [], ◌∷◌}
use mathlib.Core.Logic.Iff
use mathlib.Core.Logic.{◌↔◌}
use mathlib.Core.Bool.{Bool, true, false, not, ◌&&◌, ◌||◌}
use Prim.Native.Nat.{ℕ, zero, suc, ◌+◌, ◌-◌, ◌<◌, ◌≤◌}
use native.Mathlib.Nat.{le_of_suc-le-suc, not-suc-le-zero}
use native.Mathlib.Numerals.{sub-one}
use native.Mathlib.Omega.{arith}
use lib.Dec.{T, T_not, not_T}
use lib.ListN.{length, get_or, take, drop}
use Rattle.lists.specs.Lists.{all, any}
use Rattle.meaning.specs.Task.{Task, Preference, Kind, always, sometime, at_end, at_most_once, sometime_before, sometime_after, within, always_within}
use Rattle.meaning.specs.Meaning.{is_met, seen, visited, Observation, neither, not_φ, first_run, is_φ, is_ψ, one_run, precedes, follows, follows_in, last_φ, met, φ-at, ψ-at}
use Rattle.meaning.specs.Meaning.{Stated}
use Rattle.lists.proofs.Tests.{and_left, and_right, and_both}

-- For every number below n, for some number below n

abbrev Every : ℕ → (ℕ → Type 0) → Type 0
Every n P = (i : ℕ) → i < n → P i

abbrev Some : ℕ → (ℕ → Type 0) → Type 0
Some n P = (i : ℕ) × (i < n) × P i

module _ {P : ℕ → Type 0} where
  vacuous : T true ↔ Every 0 P
  vacuous = (λ t i b. absurd (not-suc-le-zero b), λ h. tt)

  split : {n : ℕ} → (P 0 × Every n (λ i. P (suc i))) ↔ Every (suc n) P
  split {n} = (join, λ h. (h 0 (omega arith), λ i b. h (suc i) (omega arith)))
    where
      join : P 0 × Every n (λ i. P (suc i)) → Every (suc n) P
      join h zero b = h.0
      join h (suc i) b = h.1 i (le_of_suc-le-suc b)

  pointwise : {Q : ℕ → Type 0} {n : ℕ} → Every n (λ i. P i ↔ Q i) → Every n P ↔ Every n Q
  pointwise e = (λ h i b. (e i b).0 (h i b), λ h i b. (e i b).1 (h i b))

  every_iff : (x y : Bool) {n : ℕ} → T x ↔ P 0 → T y ↔ Every n (λ i. P (suc i)) → T (x && y) ↔ Every (suc n) P
  every_iff x y e f = (
    λ h. split.0 (e.0 (and_left x y h), f.0 (and_right x y h)),
    λ h. and_both x y (e.1 (split.1 h).0) (f.1 (split.1 h).1),
  )

  some_iff : (x y : Bool) {n : ℕ} → T x ↔ P 0 → T y ↔ Some n (λ i. P (suc i)) → T (x || y) ↔ Some (suc n) P
  some_iff true y e f = (λ h. (0, omega arith, e.0 tt), λ h. tt)
  some_iff false y {n} e f = (λ h. let r = f.0 h in (suc r.0, omega arith, r.2), λ r. back r.0 r.1 r.2)
    where
      back : (i : ℕ) → i < suc n → P i → T y
      back zero b p = absurd (e.1 p)
      back (suc i) b p = f.1 (i, le_of_suc-le-suc b, p)

module _ {ℓ} {A : Type ℓ} (p : A → Bool) (d : A) where
  all_iff : (xs : List A) → T (all p xs) ↔ Every (length xs) (λ i. T (p (get_or xs i d)))
  all_iff [] = vacuous
  all_iff (x ∷ xs) = every_iff (p x) (all p xs) Iff.rfl (all_iff xs)

  any_iff : (xs : List A) → T (any p xs) ↔ Some (length xs) (λ i. T (p (get_or xs i d)))
  any_iff [] = (λ h. absurd h, λ r. absurd (not-suc-le-zero r.1))
  any_iff (x ∷ xs) = some_iff (p x) (any p xs) Iff.rfl (any_iff xs)

-- at-end

last_iff : (x : Observation) (xs : List Observation) → T (last_φ x.φ xs) ↔ φ-at (x ∷ xs) (length xs)
last_iff x [] = Iff.rfl
last_iff x (y ∷ ys) = last_iff y ys

end_iff : (xs : List Observation) → T (last_φ false xs) ↔ φ-at xs (length xs - 1)
end_iff [] = Iff.rfl
end_iff (x ∷ xs) = rw sub-one (last_iff x xs)

-- at-most-once

abbrev FirstRun : List Observation → Type 0
FirstRun xs = Every (length xs) λ k. Every k λ j. φ-at xs k → φ-at xs j

abbrev OneRun : List Observation → Type 0
OneRun xs = Every (length xs) λ k. Every k λ j. Every j λ i. φ-at xs i → φ-at xs k → φ-at xs j

no_φ_iff : (xs : List Observation) → T (all not_φ xs) ↔ Every (length xs) (λ k. φ-at xs k → ⊥)
no_φ_iff xs =
    Iff.trans (all_iff not_φ neither xs)
    (pointwise λ k b. let x : Observation = get_or xs k neither in (T_not x.φ, not_T x.φ))

first_run_iff : (xs : List Observation) → T (first_run xs) ↔ FirstRun xs
first_run_iff [] = vacuous
first_run_iff (x ∷ xs) = by_φ x.φ x.ψ (first_run_iff xs)
  where
    by_φ : (φ ψ : Bool) → T (first_run xs) ↔ FirstRun xs
        → let y : Observation = record { φ = φ; ψ = ψ } in T (first_run (y ∷ xs)) ↔ FirstRun (y ∷ xs)
    by_φ true ψ e =
        every_iff true (first_run xs) vacuous
        (Iff.trans e (pointwise λ k b. (λ h. split.0 (λ q. tt, h), λ h. (split.1 h).1)))
    by_φ false ψ e =
        every_iff true (all not_φ xs) vacuous
        (Iff.trans (no_φ_iff xs) (pointwise λ k b. (λ h j a q. absurd (h q), λ h. h 0 (omega arith))))

one_run_iff : (xs : List Observation) → T (one_run xs) ↔ OneRun xs
one_run_iff [] = vacuous
one_run_iff (x ∷ xs) = by_φ x.φ x.ψ (one_run_iff xs)
  where
    by_φ : (φ ψ : Bool) → T (one_run xs) ↔ OneRun xs
        → let y : Observation = record { φ = φ; ψ = ψ } in T (one_run (y ∷ xs)) ↔ OneRun (y ∷ xs)
    by_φ true ψ e =
        every_iff true (first_run xs) vacuous
        (Iff.trans (first_run_iff xs) (pointwise λ k b. (
          λ h. split.0 (vacuous.0 tt, λ j a i c p. h j a),
          λ h j a. h (suc j) (omega arith) 0 (omega arith) tt,
        )))
    by_φ false ψ e =
        every_iff true (one_run xs) vacuous
        (Iff.trans e (pointwise λ k b. (
          λ h. split.0 (vacuous.0 tt, λ j a. split.0 (absurd, h j a)),
          λ h j a. (split.1 (h (suc j) (omega arith))).1,
        )))

-- sometime-before and sometime-after

implies_iff : (x y : Bool) → T (not x || y) ↔ (T x → T y)
implies_iff true y = (λ h t. h, λ h. h tt)
implies_iff false y = (λ h t. absurd t, λ h. tt)

under {ℓ} : {A B C : Type ℓ} → B ↔ C → (A → B) ↔ (A → C)
under e = (λ h a. e.0 (h a), λ h a. e.1 (h a))

-- among the first states; p fails after the last
module _ (p : Observation → Bool) (fails : T (p neither) → ⊥) where
  take_iff : (i : ℕ) (xs : List Observation) → T (any p (take i xs)) ↔ Some i (λ j. T (p (get_or xs j neither)))
  take_iff zero xs = (λ h. absurd h, λ r. absurd (not-suc-le-zero r.1))
  take_iff (suc i) [] = (λ h. absurd h, λ r. absurd (fails r.2))
  take_iff (suc i) (x ∷ xs) = some_iff (p x) (any p (take i xs)) Iff.rfl (take_iff i xs)

  -- and so within the list
  inside : (xs : List Observation) (j : ℕ) → T (p (get_or xs j neither)) → j < length xs
  inside [] j h = absurd (fails h)
  inside (x ∷ xs) zero h = omega arith
  inside (x ∷ xs) (suc j) h = let l : j < length xs = inside xs j h in omega arith

abbrev Later : ℕ → List Observation → Type 0
Later i xs = (j : ℕ) × (i ≤ j) × (j < length xs) × ψ-at xs j

drop_iff : (i : ℕ) (xs : List Observation) → T (any is_ψ (drop i xs)) ↔ Later i xs
drop_iff zero xs = Iff.trans (any_iff is_ψ neither xs) (λ r. (r.0, omega arith, r.1, r.2), λ r. (r.0, r.2, r.3))
drop_iff (suc i) [] = (λ h. absurd h, λ r. r.3)
drop_iff (suc i) (x ∷ xs) =
    Iff.trans (drop_iff i xs)
    (λ r. (suc r.0, omega arith, omega arith, r.3), λ r. back r.0 r.1 r.2 r.3)
  where
    back : (j : ℕ) → i < j → j < length (x ∷ xs) → ψ-at (x ∷ xs) j → Later i xs
    back zero a b p = absurd (not-suc-le-zero a)
    back (suc j) a b p = (j, le_of_suc-le-suc a, le_of_suc-le-suc b, p)

precedes_iff : (b : Bool) (xs : List Observation)
    → T (precedes b xs) ↔ Every (length xs) (λ i. φ-at xs i → T (b || any is_ψ (take i xs)))
precedes_iff b [] = vacuous
precedes_iff true (x ∷ xs) =
    every_iff (not x.φ || true) (precedes true xs) (implies_iff x.φ true) (precedes_iff true xs)
precedes_iff false (x ∷ xs) =
    every_iff (not x.φ || false) (precedes x.ψ xs) (implies_iff x.φ false) (precedes_iff x.ψ xs)

follows_iff : (xs : List Observation) → T (follows xs) ↔ Every (length xs) (λ i. φ-at xs i → T (any is_ψ (drop i xs)))
follows_iff [] = vacuous
follows_iff (x ∷ xs) =
    every_iff (not x.φ || any is_ψ (x ∷ xs)) (follows xs) (implies_iff x.φ (any is_ψ (x ∷ xs))) (follows_iff xs)

-- within and always-within

within_iff : (t : ℕ) (xs : List Observation) → T (any is_φ (take (suc t) xs)) ↔ Stated (within t) xs
within_iff t xs =
    Iff.trans (take_iff is_φ absurd (suc t) xs)
    (λ r. (r.0, le_of_suc-le-suc r.1, inside is_φ absurd xs r.0 r.2, r.2), λ r. (r.0, omega arith, r.3))

follows_in_iff : (t : ℕ) (xs : List Observation)
    → T (follows_in t xs) ↔ Every (length xs) (λ i. φ-at xs i → T (any is_ψ (take (suc t) (drop i xs))))
follows_in_iff t [] = vacuous
follows_in_iff t (x ∷ xs) =
    every_iff (not x.φ || any is_ψ (take (suc t) (x ∷ xs))) (follows_in t xs) (implies_iff x.φ (any is_ψ (take (suc t) (x ∷ xs)))) (follows_in_iff t xs)

abbrev Soon : ℕ → ℕ → List Observation → Type 0
Soon t i xs = (j : ℕ) × (i ≤ j) × (j ≤ i + t) × (j < length xs) × ψ-at xs j

soon_iff : (t i : ℕ) (xs : List Observation) → T (any is_ψ (take (suc t) (drop i xs))) ↔ Soon t i xs
soon_iff t zero xs =
    Iff.trans (take_iff is_ψ absurd (suc t) xs)
    (λ r. (r.0, omega arith, omega arith, inside is_ψ absurd xs r.0 r.2, r.2), λ r. (r.0, omega arith, r.4))
soon_iff t (suc i) [] = (λ h. absurd h, λ r. r.4)
soon_iff t (suc i) (x ∷ xs) =
    Iff.trans (soon_iff t i xs)
    (λ r. (suc r.0, omega arith, omega arith, omega arith, r.4), λ r. back r.0 r.1 r.2 r.3 r.4)
  where
    back : (j : ℕ) → suc i ≤ j → j ≤ suc i + t → j < length (x ∷ xs) → ψ-at (x ∷ xs) j → Soon t i xs
    back zero a b c p = absurd (not-suc-le-zero a)
    back (suc j) a b c p = (j, le_of_suc-le-suc a, omega arith, le_of_suc-le-suc c, p)

pub stated : (k : Kind) (xs : List Observation) → T (met k xs) ↔ Stated k xs
stated always xs = all_iff is_φ neither xs
stated sometime xs = any_iff is_φ neither xs
stated at_end xs = end_iff xs
stated at_most_once xs = Iff.trans (one_run_iff xs) (λ h i j k a b c. h k c j b i a, λ h k c j b i a. h i j k a b c)
stated sometime_before xs = Iff.trans (precedes_iff false xs) (pointwise λ i b. under (take_iff is_ψ absurd i xs))
stated sometime_after xs = Iff.trans (follows_iff xs) (pointwise λ i b. under (drop_iff i xs))
stated (within t) xs = within_iff t xs
stated (always_within t) xs = Iff.trans (follows_in_iff t xs) (pointwise λ i b. under (soon_iff t i xs))

-- a preference counts as met exactly where document 01 says so of the states that the plan visits
pub met_iff : (t : Task) (p : List ℕ) (q : Preference) → T (is_met t p q) ↔ Stated q.kind (map (seen q) (visited t p))
met_iff t p q = stated q.kind (map (seen q) (visited t p))
