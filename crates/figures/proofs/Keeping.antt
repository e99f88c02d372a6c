-- The figures keep to what they should, and do not hang on the order of the plans.
use mathlib.Core.Path.{◌≡◌, refl, ap, ◌∙◌, fun_ext}
use mathlib.Core.Bool.{Bool, true, false, cond}
use mathlib.Core.List.{List, [], ◌∷◌, map}
use mathlib.Core.Option.{Option, none, some, some-injective}
use Prim.Native.Nat.{ℕ, suc, ◌+◌, ◌*◌, ◌/◌, ◌%◌, ◌≤◌, min, max}
use native.Mathlib.Nat.{mul_comm, div-add-mod', mod-lt, le-div_iff_mul-le, div-le_of_le-mul}
use native.Mathlib.Omega.{arith}
use lib.Dec.{leb, le→leb}
use lib.ListN.{length, length-map}
use Rattle.lists.specs.Lists.{filter, range, sum}
use Rattle.meaning.specs.Verdict.{Verdict}
use Rattle.lists.proofs.Tests.{all_map}
use Rattle.figures.specs.Reordered.{Reordered}
use Rattle.figures.specs.Figures.{Solution, solution, solutions, meeting, metrics, overall, least, greatest, solve, amounts_of}
use Rattle.figures.specs.Figures.{figures_over, figures}
use Rattle.figures.specs.Sound.{Sound, SoundIn}
use Rattle.lists.proofs.Ranges.{length-range}
use Rattle.figures.proofs.Sums.{sum_at_most, sum_at_least, least_low, greatest_high}
use Rattle.figures.proofs.Reorder.{same, concatenated}

pub filter_fewer : {A : Type 0} (p : A → Bool) (xs : List A) → length (filter p xs) ≤ length xs
filter_fewer p [] = omega arith
filter_fewer p (x ∷ xs) = go (p x) (filter_fewer p xs)
  where
    go : (b : Bool) → length (filter p xs) ≤ length xs → length (cond b (x ∷ filter p xs) (filter p xs)) ≤ suc (length xs)
    go true h = omega arith
    go false h = omega arith

pub sound_amounts : (P : ℕ) (x : Solution) (xs : List Solution) → Sound P (suc (length xs)) (amounts_of P x xs)
sound_amounts P x xs =
    let n : ℕ = suc (length xs) in
    let s : ℕ = sum (metrics (x ∷ xs)) in
    let low : ℕ = least x.metric (metrics xs) in
    let high : ℕ = greatest x.metric (metrics xs) in
    let size : length (metrics (x ∷ xs)) ≡ n = length-map (x ∷ xs) (λ (y : Solution). y.metric) in
    let enough : n * low ≤ s = rw (← size) (sum_at_least low (metrics (x ∷ xs)) (least_low x.metric (metrics xs))) in
    let most : s ≤ n * high = rw (← size) (sum_at_most high (metrics (x ∷ xs)) (greatest_high x.metric (metrics xs))) in
    record {
      one_solves = omega arith;
      each_preference = length-map (range 0 P) (meeting (x ∷ xs)) ∙ length-range 0 P;
      meeting_solve = all_map (λ (c : ℕ). leb c n) (meeting (x ∷ xs)) (λ k. le→leb (meeting (x ∷ xs) k) n (filter_fewer (λ (y : Solution). y.met k) (x ∷ xs))) (range 0 P);
      mean = div-add-mod' s n;
      rest = mod-lt s (omega arith);
      not_below = (le-div_iff_mul-le {k = n} {x = low} {y = s} (omega arith)).1 (rw (mul_comm low n) enough);
      not_above = div-le_of_le-mul n {m = s} {n = high} most;
      at_least = enough;
      at_most = most;
    }

pub sound : (P : ℕ) (vs : List Verdict) → SoundIn P (figures P vs)
sound P vs = go (solutions vs)
  where
    go : (xs : List Solution) → SoundIn P (figures_over P xs)
    go [] = tt
    go (x ∷ xs) = sound_amounts P x xs

-- The order

module _ (choose : ℕ → ℕ → ℕ) (comm : (x y : ℕ) → choose x y ≡ choose y x) (swap : (x y z : ℕ) → choose x (choose y z) ≡ choose y (choose x z)) where
  abbrev chosen : List Solution → Option ℕ
  chosen [] = none
  chosen (x ∷ xs) = some (overall choose x.metric (metrics xs))

  abbrev with : Solution → Option ℕ → Option ℕ
  with x none = some x.metric
  with x (some m) = some (choose x.metric m)

  overall_reordered : (x y : Solution) (xs ys : List Solution) → Reordered (x ∷ xs) (y ∷ ys) → overall choose x.metric (metrics xs) ≡ overall choose y.metric (metrics ys)
  overall_reordered x y xs ys r = some-injective (overall choose x.metric (metrics xs)) (overall choose y.metric (metrics ys)) (same chosen with step turn r)
    where
      step : (x : Solution) (xs : List Solution) → chosen (x ∷ xs) ≡ with x (chosen xs)
      step x [] = refl
      step x (y ∷ ys) = refl

      turn : (x y : Solution) (o : Option ℕ) → with x (with y o) ≡ with y (with x o)
      turn x y none = ap some (comm x.metric y.metric)
      turn x y (some m) = ap some (swap x.metric y.metric m)

module _ {xs ys : List Solution} (r : Reordered xs ys) where
  lengths : length xs ≡ length ys
  lengths = same length (λ (x : Solution) (n : ℕ). suc n) (λ x xs. refl) (λ x y n. refl) r

  totals : sum (metrics xs) ≡ sum (metrics ys)
  totals = same (λ (l : List Solution). sum (metrics l)) (λ (x : Solution) (n : ℕ). x.metric + n) (λ x xs. refl) (λ x y n. omega arith) r

  meetings : meeting xs ≡ meeting ys
  meetings = fun_ext (λ k. same (λ (l : List Solution). meeting l k) (one_more k) (step k) (turn k) r)
    where
      one_more : ℕ → Solution → ℕ → ℕ
      one_more k x n = cond (x.met k) (suc n) n

      step : (k : ℕ) (x : Solution) (l : List Solution) → meeting (x ∷ l) k ≡ one_more k x (meeting l k)
      step k x l = go (x.met k)
        where
          go : (b : Bool) → length (cond b (x ∷ filter (λ (y : Solution). y.met k) l) (filter (λ (y : Solution). y.met k) l)) ≡ cond b (suc (meeting l k)) (meeting l k)
          go true = refl
          go false = refl

      turn : (k : ℕ) (x y : Solution) (n : ℕ) → one_more k x (one_more k y n) ≡ one_more k y (one_more k x n)
      turn k x y n = go (x.met k) (y.met k)
        where
          go : (a b : Bool) → cond a (suc (cond b (suc n) n)) (cond b (suc n) n) ≡ cond b (suc (cond a (suc n) n)) (cond a (suc n) n)
          go true true = refl
          go true false = refl
          go false true = refl
          go false false = refl

pub over_reordered : (P : ℕ) (xs ys : List Solution) → Reordered xs ys → figures_over P xs ≡ figures_over P ys
over_reordered P [] [] r = refl
over_reordered P [] (y ∷ ys) r = absurd (omega (arith, lengths r))
over_reordered P (x ∷ xs) [] r = absurd (omega (arith, lengths r))
over_reordered P (x ∷ xs) (y ∷ ys) r =
    let low : least x.metric (metrics xs) ≡ least y.metric (metrics ys) =
    overall_reordered min (λ x y. omega arith) (λ x y z. omega arith) x y xs ys r in
    let high : greatest x.metric (metrics xs) ≡ greatest y.metric (metrics ys) =
    overall_reordered max (λ x y. omega arith) (λ x y z. omega arith) x y xs ys r in
    λ i. solve (lengths r i) (record {
      meetings = map (meetings r i) (range 0 P);
      lowest = low i;
      highest = high i;
      total = totals r i;
      quotient = totals r i / lengths r i;
      remainder = totals r i % lengths r i;
    })

pub figures_reordered : (P : ℕ) {vs ws : List Verdict} → Reordered vs ws → figures P vs ≡ figures P ws
figures_reordered P {vs} {ws} r = over_reordered P (solutions vs) (solutions ws) (concatenated solution r)
