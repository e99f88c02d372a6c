-- Lists that rise by a rank: what is kept of one rises, and two with the same members are equal.
use mathlib.Core.Path.{◌≡◌, refl, sym, ap, ap₂, ◌∙◌, subst}
use mathlib.Core.Logic.{inl, inr}
use mathlib.Core.Bool.{Bool, true, false, cond}
use mathlib.Core.List.{List, [], ◌∷◌}
use Prim.Native.Nat.{ℕ, zero, suc, ◌+◌, ◌*◌, ◌≤◌}
use native.Mathlib.Omega.{arith}
use lib.Dec.{T, leb, leb→le, le→leb}
use Rattle.lists.specs.Lists.{filter, concat_map, range}
use Rattle.meaning.specs.Task.{Literal}
use Rattle.lists.proofs.Tests.{tests, and_both}
use Rattle.canonical.specs.Canonical.{both_literals}
use Rattle.canonical.specs.SameSpelling.{Member, SameMembers}
use Rattle.canonical.specs.Agreed.{rising_by, literal_rank}

module _ {A : Type 0} (rank : A → ℕ) where
  lower_floor : (f g : ℕ) (xs : List A) → f ≤ g → T (rising_by rank g xs) → T (rising_by rank f xs)
  lower_floor f g [] h t = tt
  lower_floor f g (x ∷ xs) h t =
      and_both (leb f (rank x)) (rising_by rank (suc (rank x)) xs) (le→leb f (rank x) (omega (arith, leb→le g (rank x) (search tests)))) (search tests)

  pub filter_rising : (p : A → Bool) (f : ℕ) (xs : List A) → T (rising_by rank f xs) → T (rising_by rank f (filter p xs))
  filter_rising p f [] t = tt
  filter_rising p f (x ∷ xs) t = go (p x) (filter_rising p (suc (rank x)) xs (search tests))
    where
      go : (b : Bool) → T (rising_by rank (suc (rank x)) (filter p xs)) → T (rising_by rank f (cond b (x ∷ filter p xs) (filter p xs)))
      go true r = and_both (leb f (rank x)) (rising_by rank (suc (rank x)) (filter p xs)) (search tests) r
      go false r = lower_floor f (suc (rank x)) (filter p xs) (omega (arith, leb→le f (rank x) (search tests))) r

  above_floor : (f : ℕ) (x : A) (xs : List A) → T (rising_by rank f xs) → Member x xs → f ≤ rank x
  above_floor f x [] t m = absurd m
  above_floor f x (y ∷ ys) t (inl e) = subst (λ (z : A). f ≤ rank z) (sym e) (leb→le f (rank y) (search tests))
  above_floor f x (y ∷ ys) t (inr m) =
      omega (arith, leb→le f (rank y) (search tests), above_floor (suc (rank y)) x ys (search tests) m)

  -- a member of the rest is not the first
  after_first : (x y : A) (xs : List A) → T (rising_by rank (suc (rank x)) xs) → Member y xs → y ≡ x → ⊥
  after_first x y xs t m e = omega (arith, above_floor (suc (rank x)) y xs t m, ap rank e)

  least_first : (f : ℕ) (x y : A) (ys : List A) → T (rising_by rank f (y ∷ ys)) → Member x (y ∷ ys) → rank y ≤ rank x
  least_first f x y ys t m =
      above_floor (rank y) x (y ∷ ys)
      (and_both (leb (rank y) (rank y)) (rising_by rank (suc (rank y)) ys) (le→leb (rank y) (rank y) (omega arith)) (search tests)) m

  rest_of : (x y z : A) (xs ys : List A) → x ≡ y → T (rising_by rank (suc (rank x)) xs) → Member z xs → Member z (y ∷ ys) → Member z ys
  rest_of x y z xs ys e t m (inl q) = absurd (after_first x z xs t m (q ∙ sym e))
  rest_of x y z xs ys e t m (inr k) = k

  -- where equal ranks mean equals
  pub rising_unique : ((x y : A) → rank x ≡ rank y → x ≡ y) → (f g : ℕ) (xs ys : List A) → T (rising_by rank f xs) → T (rising_by rank g ys)
      → SameMembers xs ys → xs ≡ ys
  rising_unique inj f g [] [] s t e = refl
  rising_unique inj f g [] (y ∷ ys) s t e = absurd ((e y).1 (inl refl))
  rising_unique inj f g (x ∷ xs) [] s t e = absurd ((e x).0 (inl refl))
  rising_unique inj f g (x ∷ xs) (y ∷ ys) s t e =
      let up : rank y ≤ rank x = least_first g x y ys t ((e x).0 (inl refl)) in
      let down : rank x ≤ rank y = least_first f y x xs s ((e y).1 (inl refl)) in
      let first : x ≡ y = inj x y (omega arith) in
      let xs_rise : T (rising_by rank (suc (rank x)) xs) = search tests in
      let ys_rise : T (rising_by rank (suc (rank y)) ys) = search tests in
      ap₂ ◌∷◌ first
      (rising_unique inj (suc (rank x)) (suc (rank y)) xs ys xs_rise ys_rise
      (λ z. (λ m. rest_of x y z xs ys first xs_rise m ((e z).0 (inr m)), λ m. rest_of y x z ys xs (sym first) ys_rise m ((e z).1 (inr m)))))

-- Facts and literals

pub range_rise : (k m : ℕ) → T (rising_by (λ (n : ℕ). n) k (range k m))
range_rise k zero = tt
range_rise k (suc m) =
    and_both (leb k k) (rising_by (λ (n : ℕ). n) (suc k) (range (k + 1) m)) (le→leb k k (omega arith))
    (subst (λ (f : ℕ). T (rising_by (λ (n : ℕ). n) f (range (k + 1) m))) (omega arith) (range_rise (k + 1) m))

pub literals_rise : (k m : ℕ) → T (rising_by literal_rank (2 * k) (concat_map both_literals (range k m)))
literals_rise k zero = tt
literals_rise k (suc m) =
    let rest : List Literal = concat_map both_literals (range (k + 1) m) in
    let later : T (rising_by literal_rank (suc (2 * k + 1)) rest) =
    subst (λ (f : ℕ). T (rising_by literal_rank f rest)) (omega arith) (literals_rise (k + 1) m) in
    let second : T (leb (suc (2 * k + 0)) (2 * k + 1)) = le→leb (suc (2 * k + 0)) (2 * k + 1) (omega arith) in
    let first : T (leb (2 * k) (2 * k + 0)) = le→leb (2 * k) (2 * k + 0) (omega arith) in
    search tests

pub rank_tells : (l m : Literal) → literal_rank l ≡ literal_rank m → l ≡ m
rank_tells l m e = λ i. record { holds = holds l.holds m.holds e i; fact = fact l.holds m.holds e i }
  where
    holds : (a b : Bool) → 2 * l.fact + cond a 0 1 ≡ 2 * m.fact + cond b 0 1 → a ≡ b
    holds true true e = refl
    holds true false e = absurd (omega arith)
    holds false true e = absurd (omega arith)
    holds false false e = refl

    fact : (a b : Bool) → 2 * l.fact + cond a 0 1 ≡ 2 * m.fact + cond b 0 1 → l.fact ≡ m.fact
    fact true true e = omega arith
    fact true false e = absurd (omega arith)
    fact false true e = absurd (omega arith)
    fact false false e = omega arith
