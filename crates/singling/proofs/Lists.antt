-- Laws of tests over mapped and joined lists.
use mathlib.Core.Path.{◌≡◌, refl, sym, ap, ap₂, ◌∙◌}
use mathlib.Core.Bool.{Bool, true, false, ◌&&◌, ◌||◌}
use mathlib.Core.List.{List, [], ◌∷◌, ◌++◌, map}
use Prim.Native.Nat.{ℕ, ◌*◌}
use native.Mathlib.Nat.{zero-mul, suc-mul}
use native.Mathlib.Omega.{arith}
use lib.Dec.{T}
use lib.ListN.{length, length-append}
use Rattle.lists.specs.Lists.{all, any, concat_map}
use Rattle.lists.proofs.Tests.{tests, and_both, any_append, all_both}

module _ {A B : Type 0} where
  pub any-map : (p : B → Bool) (f : A → B) (xs : List A) → any p (map f xs) ≡ any (λ (x : A). p (f x)) xs
  any-map p f [] = refl
  any-map p f (x ∷ xs) = ap (λ (b : Bool). p (f x) || b) (any-map p f xs)

  pub any-concat : (p : B → Bool) (f : A → List B) (xs : List A) → any p (concat_map f xs) ≡ any (λ (x : A). any p (f x)) xs
  any-concat p f [] = refl
  any-concat p f (x ∷ xs) = any_append p (f x) (concat_map f xs) ∙ ap (λ (b : Bool). any p (f x) || b) (any-concat p f xs)

module _ {A : Type 0} where
  pub any_each : (p q : A → Bool) → ((x : A) → p x ≡ q x) → (xs : List A) → any p xs ≡ any q xs
  any_each p q e [] = refl
  any_each p q e (x ∷ xs) = ap₂ ◌||◌ (e x) (any_each p q e xs)

  pub any-and_left : (b : Bool) (p : A → Bool) (xs : List A) → any (λ (x : A). b && p x) xs ≡ (b && any p xs)
  any-and_left true p xs = refl
  any-and_left false p [] = refl
  any-and_left false p (x ∷ xs) = any-and_left false p xs

  pub any-and_right : (b : Bool) (p : A → Bool) (xs : List A) → any (λ (x : A). p x && b) xs ≡ (any p xs && b)
  any-and_right b p [] = refl
  any-and_right b p (x ∷ xs) = ap (λ (c : Bool). p x && b || c) (any-and_right b p xs) ∙ shared (p x) (any p xs) b
    where
      shared : (x y b : Bool) → (x && b || y && b) ≡ ((x || y) && b)
      shared true true true = refl
      shared true true false = refl
      shared true false true = refl
      shared true false false = refl
      shared false y b = refl

  all_pass : (xs : List A) → T (all (λ (x : A). true) xs)
  all_pass [] = tt
  all_pass (x ∷ xs) = all_pass xs

module _ {A B : Type 0} where
  pub all_mapped : (p : B → Bool) (q : A → Bool) (f : A → B) → ((x : A) → T (q x) → T (p (f x))) → (xs : List A) → T (all q xs)
      → T (all p (map f xs))
  all_mapped p q f h [] t = tt
  all_mapped p q f h (x ∷ xs) t = and_both (p (f x)) (all p (map f xs)) (h x (search tests)) (all_mapped p q f h xs (search tests))

  pub all_joined : (p : B → Bool) (q : A → Bool) (f : A → List B) → ((x : A) → T (q x) → T (all p (f x))) → (xs : List A) → T (all q xs)
      → T (all p (concat_map f xs))
  all_joined p q f h [] t = tt
  all_joined p q f h (x ∷ xs) t = all_both p (f x) (concat_map f xs) (h x (search tests)) (all_joined p q f h xs (search tests))

  pub concat-map : {C : Type 0} (f : B → List C) (g : A → B) (xs : List A) → concat_map f (map g xs) ≡ concat_map (λ (x : A). f (g x)) xs
  concat-map f g [] = refl
  concat-map {C} f g (x ∷ xs) = ap (λ (ys : List C). f (g x) ++ ys) (concat-map f g xs)

  -- m from each that passes a test, and all pass it
  pub length-concat_where : (ok : A → Bool) (f : A → List B) (m : ℕ) → ((x : A) → T (ok x) → length (f x) ≡ m) → (xs : List A) → T (all ok xs)
      → length (concat_map f xs) ≡ length xs * m
  length-concat_where ok f m h [] t = sym (zero-mul m)
  length-concat_where ok f m h (x ∷ xs) t =
      let rest : length (concat_map f xs) ≡ length xs * m = length-concat_where ok f m h xs (search tests) in
      omega (arith, length-append (f x) (concat_map f xs), h x (search tests), rest, suc-mul (length xs) m)

  pub length-concat : (f : A → List B) (m : ℕ) → ((x : A) → length (f x) ≡ m) → (xs : List A) → length (concat_map f xs) ≡ length xs * m
  length-concat f m h xs = length-concat_where (λ (x : A). true) f m (λ x t. h x) xs (all_pass xs)
