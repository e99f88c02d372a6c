-- The same elements in another order.
use Rattle.std.specs.Prelude.{List, [], ◌∷◌}

pub data Reordered {A : Type 0} : List A → List A → Type 0 where
  nothing : Reordered [] []
  same_first : {xs ys : List A} (x : A) → Reordered xs ys → Reordered (x ∷ xs) (x ∷ ys)
  swapped : (x y : A) (xs : List A) → Reordered (x ∷ y ∷ xs) (y ∷ x ∷ xs)
  then : {xs ys zs : List A} → Reordered xs ys → Reordered ys zs → Reordered xs zs
