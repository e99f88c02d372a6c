-- Lists, with Bools for tests.
use Rattle.std.specs.Prelude.{Bool, true, false, cond, ◌&&◌, ◌||◌, List, [], ◌∷◌, ◌++◌, ℕ, zero, suc, ◌+◌, eqb}

module _ {ℓ} {A : Type ℓ} where
  abbrev pub all : (A → Bool) → List A → Bool
  all p [] = true
  all p (x ∷ xs) = p x && all p xs

  abbrev pub any : (A → Bool) → List A → Bool
  any p [] = false
  any p (x ∷ xs) = p x || any p xs

  abbrev pub filter : (A → Bool) → List A → List A
  filter p [] = []
  filter p (x ∷ xs) = cond (p x) (x ∷ filter p xs) (filter p xs)

  -- what stands before the first that passes the test
  abbrev pub take_until : (A → Bool) → List A → List A
  take_until stop [] = []
  take_until stop (x ∷ xs) = cond (stop x) [] (x ∷ take_until stop xs)

  -- what stands from the first that passes the test on
  abbrev pub drop_until : (A → Bool) → List A → List A
  drop_until stop [] = []
  drop_until stop (x ∷ xs) = cond (stop x) (x ∷ xs) (drop_until stop xs)

  abbrev pub is_empty : List A → Bool
  is_empty [] = true
  is_empty (x ∷ xs) = false

  abbrev pub non_empty : List A → Bool
  non_empty [] = false
  non_empty (x ∷ xs) = true

  abbrev pub last_or : A → List A → A
  last_or d [] = d
  last_or d (x ∷ xs) = last_or x xs

  -- how many stand before the first that fails the test
  abbrev pub first_failing : (A → Bool) → List A → ℕ
  first_failing p [] = 0
  first_failing p (x ∷ xs) = cond (p x) (suc (first_failing p xs)) 0

module _ {ℓ κ} {A : Type ℓ} {B : Type κ} where
  abbrev pub concat_map : (A → List B) → List A → List B
  concat_map f [] = []
  concat_map f (x ∷ xs) = f x ++ concat_map f xs

  -- the same by number, the first being number k
  abbrev pub concat_from : (ℕ → A → List B) → ℕ → List A → List B
  concat_from f k [] = []
  concat_from f k (x ∷ xs) = f k x ++ concat_from f (k + 1) xs

abbrev pub singleton {ℓ} : {A : Type ℓ} → A → List A
singleton x = x ∷ []

-- n numbers from k on
abbrev pub range : ℕ → ℕ → List ℕ
range k zero = []
range k (suc n) = k ∷ range (k + 1) n

abbrev pub elem : ℕ → List ℕ → Bool
elem n = any (eqb n)

abbrev pub sum : List ℕ → ℕ
sum [] = 0
sum (x ∷ xs) = x + sum xs
