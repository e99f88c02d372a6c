-- Laws of members: what two lists with the same members share.
use mathlib.Core.Path.{◌≡◌, refl, sym, subst}
use mathlib.Core.Logic.{◌⊎◌, inl, inr}
use mathlib.Core.Bool.{Bool, true, false, cond, ◌||◌}
use mathlib.Core.List.{List, [], ◌∷◌, ◌++◌}
use Prim.Native.Nat.{ℕ, zero, suc, ◌+◌, ◌≤◌, ◌<◌}
use native.Mathlib.Nat.{eq-or-lt_of_le}
use native.Mathlib.Omega.{arith}
use lib.Dec.{T}
use Rattle.lists.specs.Lists.{all, any, filter, non_empty, concat_map, range}
use Rattle.lists.proofs.Tests.{tests, as_t, and_both, or_left, or_right, never}
use Rattle.canonical.specs.SameSpelling.{Member, SameMembers}

-- two tests that pass together
pub both_ways : (a b : Bool) → (T a → T b) → (T b → T a) → a ≡ b
both_ways true true f g = refl
both_ways true false f g = absurd (f tt)
both_ways false true f g = absurd (g tt)
both_ways false false f g = refl

either : (a b : Bool) → T (a || b) → T a ⊎ T b
either true b t = inl t
either false b t = inr t

module _ {A : Type 0} where
  -- two lists with the members of a third
  pub same_common : (xs ys zs : List A) → SameMembers xs zs → SameMembers ys zs → SameMembers xs ys
  same_common xs ys zs e f x = (λ m. (f x).1 ((e x).0 m), λ m. (e x).1 ((f x).0 m))

  -- Tests

  pub member_passes : (p : A → Bool) (x : A) (xs : List A) → T (all p xs) → Member x xs → T (p x)
  member_passes p x [] t m = absurd m
  member_passes p x (y ∷ ys) t (inl e) = subst (λ (z : A). T (p z)) (sym e) (search tests)
  member_passes p x (y ∷ ys) t (inr m) = member_passes p x ys (search tests) m

  pub all_members : (p : A → Bool) (xs : List A) → ((x : A) → Member x xs → T (p x)) → T (all p xs)
  all_members p [] h = tt
  all_members p (x ∷ xs) h = and_both (p x) (all p xs) (h x (inl refl)) (all_members p xs (λ y m. h y (inr m)))

  pub member_any : (p : A → Bool) (x : A) (xs : List A) → Member x xs → T (p x) → T (any p xs)
  member_any p x [] m t = m
  member_any p x (y ∷ ys) (inl e) t = or_left (p y) (any p ys) (subst (λ (z : A). T (p z)) e t)
  member_any p x (y ∷ ys) (inr m) t = or_right (p y) (any p ys) (member_any p x ys m t)

  pub any_member : (p : A → Bool) (xs : List A) → T (any p xs) → (x : A) × Member x xs × T (p x)
  any_member p [] t = absurd t
  any_member p (x ∷ xs) t = go (either (p x) (any p xs) t) (any_member p xs)
    where
      go : T (p x) ⊎ T (any p xs) → (T (any p xs) → (y : A) × Member y xs × T (p y)) → (y : A) × Member y (x ∷ xs) × T (p y)
      go (inl s) rest = (x, inl refl, s)
      go (inr s) rest = let r : (y : A) × Member y xs × T (p y) = rest s in (r.0, inr r.1, r.2)

  any_within : (p : A → Bool) (xs ys : List A) → ((x : A) → Member x xs → Member x ys) → T (any p xs) → T (any p ys)
  any_within p xs ys h t =
      let r : (x : A) × Member x xs × T (p x) = any_member p xs t in
      member_any p r.0 ys (h r.0 r.1) r.2

  pub any_same_members : (p : A → Bool) (xs ys : List A) → SameMembers xs ys → any p xs ≡ any p ys
  any_same_members p xs ys e =
      both_ways (any p xs) (any p ys) (any_within p xs ys (λ x. (e x).0)) (any_within p ys xs (λ x. (e x).1))

  all_within : (p : A → Bool) (xs ys : List A) → ((x : A) → Member x ys → Member x xs) → T (all p xs) → T (all p ys)
  all_within p xs ys h t = all_members p ys (λ x m. member_passes p x xs t (h x m))

  pub all_same_members : (p : A → Bool) (xs ys : List A) → SameMembers xs ys → all p xs ≡ all p ys
  all_same_members p xs ys e =
      both_ways (all p xs) (all p ys) (all_within p xs ys (λ x. (e x).1)) (all_within p ys xs (λ x. (e x).0))

  pub non_empty_same_members : (xs ys : List A) → SameMembers xs ys → non_empty xs ≡ non_empty ys
  non_empty_same_members [] [] e = refl
  non_empty_same_members [] (y ∷ ys) e = absurd ((e y).1 (inl refl))
  non_empty_same_members (x ∷ xs) [] e = absurd ((e x).0 (inl refl))
  non_empty_same_members (x ∷ xs) (y ∷ ys) e = refl

  -- Lists kept, joined and counted up

  pub filter_member : (p : A → Bool) (x : A) (xs : List A) → Member x xs → T (p x) → Member x (filter p xs)
  filter_member p x [] m t = m
  filter_member p x (y ∷ ys) m t = go (p y) refl m (filter_member p x ys)
    where
      go : (b : Bool) → p y ≡ b → (x ≡ y) ⊎ Member x ys → (Member x ys → T (p x) → Member x (filter p ys))
          → Member x (cond b (y ∷ filter p ys) (filter p ys))
      go true e (inl q) rest = inl q
      go true e (inr m) rest = inr (rest m t)
      go false e (inl q) rest = absurd (never t (subst (λ (z : A). p z ≡ false) (sym q) e))
      go false e (inr m) rest = rest m t

  pub member_kept : (p : A → Bool) (x : A) (xs : List A) → Member x (filter p xs) → Member x xs × T (p x)
  member_kept p x [] m = absurd m
  member_kept p x (y ∷ ys) m = go (p y) refl m (member_kept p x ys)
    where
      go : (b : Bool) → p y ≡ b → Member x (cond b (y ∷ filter p ys) (filter p ys)) → (Member x (filter p ys) → Member x ys × T (p x))
          → Member x (y ∷ ys) × T (p x)
      go true e (inl q) rest = (inl q, subst (λ (z : A). T (p z)) (sym q) (as_t e))
      go true e (inr m) rest = (inr (rest m).0, (rest m).1)
      go false e m rest = (inr (rest m).0, (rest m).1)

  -- two tests that agree on the members
  pub filter_same : (p q : A → Bool) (xs : List A) → ((x : A) → Member x xs → p x ≡ q x) → filter p xs ≡ filter q xs
  filter_same p q [] h = refl
  filter_same p q (x ∷ xs) h = rw (h x (inl refl), filter_same p q xs (λ y m. h y (inr m)))

  member_left : (x : A) (xs ys : List A) → Member x xs → Member x (xs ++ ys)
  member_left x [] ys m = absurd m
  member_left x (z ∷ xs) ys (inl e) = inl e
  member_left x (z ∷ xs) ys (inr m) = inr (member_left x xs ys m)

  member_right : (x : A) (xs ys : List A) → Member x ys → Member x (xs ++ ys)
  member_right x [] ys m = m
  member_right x (z ∷ xs) ys m = inr (member_right x xs ys m)

  pub concat_member : {B : Type 0} (f : B → List A) (x : A) (y : B) (ys : List B) → Member y ys → Member x (f y) → Member x (concat_map f ys)
  concat_member f x y [] m k = absurd m
  concat_member {B} f x y (z ∷ zs) (inl e) k = member_left x (f z) (concat_map f zs) (subst (λ (b : B). Member x (f b)) e k)
  concat_member f x y (z ∷ zs) (inr m) k = member_right x (f z) (concat_map f zs) (concat_member f x y zs m k)

pub number_member : (n k m : ℕ) → k ≤ n → n < k + m → Member n (range k m)
number_member n k zero h l = absurd (omega arith)
number_member n k (suc m) h l = go (eq-or-lt_of_le h) (number_member n (k + 1) m)
  where
    go : (k ≡ n) ⊎ (k < n) → (k + 1 ≤ n → n < k + 1 + m → Member n (range (k + 1) m)) → Member n (range k (suc m))
    go (inl e) rest = inl (sym e)
    go (inr u) rest = inr (rest (omega arith) (omega arith))
