-- Lists in another order.
use mathlib.Core.Path.{◌≡◌, refl, sym, ap, ◌∙◌}
use mathlib.Core.List.{List, [], ◌∷◌, ◌++◌, map}
use Rattle.lists.specs.Lists.{concat_map}
use Rattle.figures.specs.Reordered.{Reordered, nothing, same_first, swapped, then}

module _ {A : Type 0} where
  pub as_was : (xs : List A) → Reordered xs xs
  as_was [] = nothing
  as_was (x ∷ xs) = same_first x (as_was xs)

  pub other_way : {xs ys : List A} → Reordered xs ys → Reordered ys xs
  other_way nothing = nothing
  other_way (same_first x r) = same_first x (other_way r)
  other_way (swapped x y xs) = swapped y x xs
  other_way (then r s) = then (other_way s) (other_way r)

  pub after : (us : List A) {xs ys : List A} → Reordered xs ys → Reordered (us ++ xs) (us ++ ys)
  after [] r = r
  after (a ∷ us) r = same_first a (after us r)

  -- x goes after us
  pub past : (x : A) (us xs : List A) → Reordered (x ∷ (us ++ xs)) (us ++ (x ∷ xs))
  past x [] xs = as_was (x ∷ xs)
  past x (a ∷ us) xs = then (swapped x a (us ++ xs)) (same_first a (past x us xs))

  parts : (us bs xs : List A) → Reordered (us ++ (bs ++ xs)) (bs ++ (us ++ xs))
  parts [] bs xs = as_was (bs ++ xs)
  parts (a ∷ us) bs xs = then (same_first a (parts us bs xs)) (past a bs (us ++ xs))

  -- what a list comes to, taken in singleton by one, where the order of two doesn't matter
  module _ {B : Type 0} (h : List A → B) (g : A → B → B) (step : (x : A) (xs : List A) → h (x ∷ xs) ≡ g x (h xs))
      (swap : (x y : A) (b : B) → g x (g y b) ≡ g y (g x b))
    where
      pub same : {xs ys : List A} → Reordered xs ys → h xs ≡ h ys
      same nothing = refl
      same (same_first {xs} {ys} x r) = step x xs ∙ ap (g x) (same r) ∙ sym (step x ys)
      same (swapped x y xs) =
          step x (y ∷ xs) ∙ ap (g x) (step y xs) ∙ swap x y (h xs) ∙ sym (step y (x ∷ xs) ∙ ap (g y) (step x xs))
      same (then r s) = same r ∙ same s

module _ {A B : Type 0} where
  pub mapped : (f : A → B) {xs ys : List A} → Reordered xs ys → Reordered (map f xs) (map f ys)
  mapped f nothing = nothing
  mapped f (same_first x r) = same_first (f x) (mapped f r)
  mapped f (swapped x y xs) = swapped (f x) (f y) (map f xs)
  mapped f (then r s) = then (mapped f r) (mapped f s)

  pub concatenated : (f : A → List B) {xs ys : List A} → Reordered xs ys → Reordered (concat_map f xs) (concat_map f ys)
  concatenated f nothing = nothing
  concatenated f (same_first x r) = after (f x) (concatenated f r)
  concatenated f (swapped x y xs) = parts (f x) (f y) (concat_map f xs)
  concatenated f (then r s) = then (concatenated f r) (concatenated f s)
