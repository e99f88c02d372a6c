-- Laws of two lists, place by place.
use mathlib.Core.Path.{◌≡◌, refl, ap, ap₂}
use mathlib.Core.Bool.{Bool, cond, ◌&&◌, ◌||◌}
use mathlib.Core.List.{List, [], ◌∷◌, map}
use Prim.Native.Nat.{ℕ, zero, suc}
use lib.Dec.{T}
use lib.ListN.{length, get_or}
use Rattle.lists.specs.Lists.{all, any, first_failing}
use Rattle.lists.proofs.Tests.{tests}
use Rattle.alike.specs.Each.{Each}

module _ {A : Type 0} (R : A → A → Type 0) where
  pub each_length : (xs ys : List A) → Each R xs ys → length xs ≡ length ys
  each_length [] [] e = refl
  each_length [] (y ∷ ys) e = absurd e
  each_length (x ∷ xs) [] e = absurd e
  each_length (x ∷ xs) (y ∷ ys) e = ap suc (each_length xs ys e.1)

  pub each_at : (d : A) → R d d → (xs ys : List A) (i : ℕ) → Each R xs ys → R (get_or xs i d) (get_or ys i d)
  each_at d r [] [] i e = r
  each_at d r [] (y ∷ ys) i e = absurd e
  each_at d r (x ∷ xs) [] i e = absurd e
  each_at d r (x ∷ xs) (y ∷ ys) zero e = e.0
  each_at d r (x ∷ xs) (y ∷ ys) (suc i) e = each_at d r xs ys i e.1

  pub each_map : {B : Type 0} (f g : A → B) → ((x y : A) → R x y → f x ≡ g y) → (xs ys : List A) → Each R xs ys → map f xs ≡ map g ys
  each_map f g h [] [] e = refl
  each_map f g h [] (y ∷ ys) e = absurd e
  each_map f g h (x ∷ xs) [] e = absurd e
  each_map f g h (x ∷ xs) (y ∷ ys) e = ap₂ ◌∷◌ (h x y e.0) (each_map f g h xs ys e.1)

  pub each_any : (f g : A → Bool) → ((x y : A) → R x y → f x ≡ g y) → (xs ys : List A) → Each R xs ys → any f xs ≡ any g ys
  each_any f g h [] [] e = refl
  each_any f g h [] (y ∷ ys) e = absurd e
  each_any f g h (x ∷ xs) [] e = absurd e
  each_any f g h (x ∷ xs) (y ∷ ys) e = ap₂ ◌||◌ (h x y e.0) (each_any f g h xs ys e.1)

  pub each_all : (f g : A → Bool) → ((x y : A) → R x y → f x ≡ g y) → (xs ys : List A) → Each R xs ys → all f xs ≡ all g ys
  each_all f g h [] [] e = refl
  each_all f g h [] (y ∷ ys) e = absurd e
  each_all f g h (x ∷ xs) [] e = absurd e
  each_all f g h (x ∷ xs) (y ∷ ys) e = ap₂ ◌&&◌ (h x y e.0) (each_all f g h xs ys e.1)

  pub each_first : (f g : A → Bool) → ((x y : A) → R x y → f x ≡ g y) → (xs ys : List A) → Each R xs ys → first_failing f xs ≡ first_failing g ys
  each_first f g h [] [] e = refl
  each_first f g h [] (y ∷ ys) e = absurd e
  each_first f g h (x ∷ xs) [] e = absurd e
  each_first f g h (x ∷ xs) (y ∷ ys) e = ap₂ (λ (b : Bool) (n : ℕ). cond b (suc n) 0) (h x y e.0) (each_first f g h xs ys e.1)

  pub each_implies : (S : A → A → Type 0) → ((x y : A) → R x y → S x y) → (xs ys : List A) → Each R xs ys → Each S xs ys
  each_implies S h [] [] e = tt
  each_implies S h [] (y ∷ ys) e = e
  each_implies S h (x ∷ xs) [] e = e
  each_implies S h (x ∷ xs) (y ∷ ys) e = (h x y e.0, each_implies S h xs ys e.1)

  -- two lists that stand so to a third
  pub each_common : ((x y z : A) → R x z → R y z → R x y) → (xs ys zs : List A) → Each R xs zs → Each R ys zs → Each R xs ys
  each_common h [] [] zs d e = tt
  each_common h [] (y ∷ ys) [] d e = e
  each_common h [] (y ∷ ys) (z ∷ zs) d e = absurd d
  each_common h (x ∷ xs) [] [] d e = d
  each_common h (x ∷ xs) [] (z ∷ zs) d e = absurd e
  each_common h (x ∷ xs) (y ∷ ys) [] d e = absurd d
  each_common h (x ∷ xs) (y ∷ ys) (z ∷ zs) d e = (h x y z d.0 e.0, each_common h xs ys zs d.1 e.1)

  -- a list and what becomes of it, element by element
  pub each_mapped : (ok : A → Bool) (f : A → A) → ((x : A) → T (ok x) → R x (f x)) → (xs : List A) → T (all ok xs) → Each R xs (map f xs)
  each_mapped ok f h [] t = tt
  each_mapped ok f h (x ∷ xs) t = (h x (search tests), each_mapped ok f h xs (search tests))

  pub each_becomes : (f : A → A) → ((x : A) → R x (f x)) → (xs : List A) → Each R xs (map f xs)
  each_becomes f h [] = tt
  each_becomes f h (x ∷ xs) = (h x, each_becomes f h xs)

  pub each_itself : ((x : A) → R x x) → (xs : List A) → Each R xs xs
  each_itself h [] = tt
  each_itself h (x ∷ xs) = (h x, each_itself h xs)
