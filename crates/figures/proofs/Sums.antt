-- Sums of numbers within a limit, and the least and the greatest of some.
use mathlib.Core.Path.{◌≡◌, sym, subst}
use mathlib.Core.Logic.{◌⊎◌, inl, inr}
use mathlib.Core.Bool.{true, false}
use mathlib.Core.List.{List, [], ◌∷◌}
use Prim.Native.Nat.{ℕ, ◌+◌, ◌*◌, ◌≤◌, min, max}
use native.Mathlib.Nat.{suc-mul}
use native.Mathlib.Omega.{arith, min_cases, max_cases}
use lib.Dec.{T, leb, eqb, leb→le, le→leb, eqb_refl}
use lib.ListN.{length}
use Rattle.lists.specs.Lists.{all, elem, sum}
use Rattle.lists.proofs.Tests.{tests, and_both, all_implies, or_left, or_right}
use Rattle.figures.specs.Figures.{overall, least, greatest}

pub sum_at_most : (L : ℕ) (xs : List ℕ) → T (all (λ (x : ℕ). leb x L) xs) → sum xs ≤ length xs * L
sum_at_most L [] t = omega arith
sum_at_most L (x ∷ xs) t =
    let here : x ≤ L = leb→le x L (search tests) in
    let rest : sum xs ≤ length xs * L = sum_at_most L xs (search tests) in
    omega (arith, suc-mul (length xs) L)

pub sum_at_least : (L : ℕ) (xs : List ℕ) → T (all (leb L) xs) → length xs * L ≤ sum xs
sum_at_least L [] t = omega arith
sum_at_least L (x ∷ xs) t =
    let here : L ≤ x = leb→le L x (search tests) in
    let rest : length xs * L ≤ sum xs = sum_at_least L xs (search tests) in
    omega (arith, suc-mul (length xs) L)

-- the least is at most each
pub least_low : (x : ℕ) (xs : List ℕ) → T (all (leb (least x xs)) (x ∷ xs))
least_low x [] = and_both (leb x x) true (le→leb x x (omega arith)) tt
least_low x (y ∷ ys) =
    let m : ℕ = least y ys in
    and_both (leb (min x m) x) (all (leb (min x m)) (y ∷ ys)) (le→leb (min x m) x (omega arith))
    (all_implies (leb m) (leb (min x m)) (λ v t. le→leb (min x m) v (omega (arith, leb→le m v t))) (y ∷ ys) (least_low y ys))

-- the greatest is at least each
pub greatest_high : (x : ℕ) (xs : List ℕ) → T (all (λ (v : ℕ). leb v (greatest x xs)) (x ∷ xs))
greatest_high x [] = and_both (leb x x) true (le→leb x x (omega arith)) tt
greatest_high x (y ∷ ys) =
    let m : ℕ = greatest y ys in
    and_both (leb x (max x m)) (all (λ (v : ℕ). leb v (max x m)) (y ∷ ys)) (le→leb x (max x m) (omega arith))
    (all_implies (λ (v : ℕ). leb v m) (λ (v : ℕ). leb v (max x m)) (λ v t. le→leb v (max x m) (omega (arith, leb→le v m t))) (y ∷ ys) (greatest_high y ys))

-- and at most their sum
pub greatest-sum : (x : ℕ) (xs : List ℕ) → greatest x xs ≤ x + sum xs
greatest-sum x [] = omega arith
greatest-sum x (y ∷ ys) = omega (arith, greatest-sum y ys)

-- and each is one of them
module _ (choose : ℕ → ℕ → ℕ) (one_of_lem : (x y : ℕ) → (choose x y ≡ x) ⊎ (choose x y ≡ y)) where
  overall_in : (x : ℕ) (xs : List ℕ) → T (elem (overall choose x xs) (x ∷ xs))
  overall_in x [] = or_left (eqb x x) false (eqb_refl x)
  overall_in x (y ∷ ys) = go (one_of_lem x m) (overall_in y ys)
    where
      m : ℕ
      m = overall choose y ys

      go : (choose x m ≡ x) ⊎ (choose x m ≡ m) → T (elem m (y ∷ ys)) → T (elem (choose x m) (x ∷ y ∷ ys))
      go (inl e) t = subst (λ (v : ℕ). T (elem v (x ∷ y ∷ ys))) (sym e) (or_left (eqb x x) (elem x (y ∷ ys)) (eqb_refl x))
      go (inr e) t = subst (λ (v : ℕ). T (elem v (x ∷ y ∷ ys))) (sym e) (or_right (eqb m x) (elem m (y ∷ ys)) t)

pub least_in : (x : ℕ) (xs : List ℕ) → T (elem (least x xs) (x ∷ xs))
least_in = overall_in min (λ x y. min_cases x y ((min x y ≡ x) ⊎ (min x y ≡ y)) (λ h e. inl e) (λ h e. inr e))

pub greatest_in : (x : ℕ) (xs : List ℕ) → T (elem (greatest x xs) (x ∷ xs))
greatest_in = overall_in max (λ x y. max_cases x y ((max x y ≡ x) ⊎ (max x y ≡ y)) (λ h e. inr e) (λ h e. inl e))
