-- Filling a list from the front, one element a turn: laws on plain lists.
use mathlib.Core.Path.{◌≡◌, refl, sym, ◌∙◌, ap}
use Prim.Native.Nat.{ℕ, zero, suc, ◌+◌, ◌<◌}
use native.Mathlib.Nat.{not-suc-le-zero, le_of_suc-le-suc}
use native.Mathlib.Numerals.{add-one}
use native.Mathlib.Decide.{ℕ_discrete}
use native.Mathlib.Omega.{arith}
use mathlib.Core.List.{List, [], ◌∷◌, ◌++◌, append_assoc}
use lib.ListN.{length, set, drop, get_or, length-append, get_or-append}
use lib.Seq.{get_or-append_seam}
use Rattle.nodes.specs.Nodes.{up_to}

module _ {A : Type 0} where
  -- what is left from place i on begins with an element
  drop_at : (ys : List A) (i : ℕ) → i < length ys → (y : A) × (drop i ys ≡ y ∷ drop (suc i) ys)
  drop_at [] i l = absurd (not-suc-le-zero l)
  drop_at (y ∷ ys) zero l = (y, refl)
  drop_at (y ∷ ys) (suc i) l = drop_at ys i (le_of_suc-le-suc l)

  set_after : (xs : List A) (x y : A) (zs : List A) → set (xs ++ x ∷ zs) (length xs) y ≡ xs ++ y ∷ zs
  set_after [] x y zs = refl
  set_after (w ∷ xs) x y zs = ap (λ (l : List A). w ∷ l) (set_after xs x y zs)

  module _ (f : ℕ → A) where
    pub length-up_to : (i : ℕ) → length (up_to f i) ≡ i
    length-up_to zero = refl
    length-up_to (suc i) = omega (arith, length-append (up_to f i) (f i ∷ []), length-up_to i)

    pub up_to_at : (n i : ℕ) (d : A) → i < n → get_or (up_to f n) i d ≡ f i
    up_to_at zero i d h = absurd (not-suc-le-zero h)
    up_to_at (suc n) i d h = go (ℕ_discrete i n) (up_to_at n i d)
      where
        go : Dec (i ≡ n) → (i < n → get_or (up_to f n) i d ≡ f i) → get_or (up_to f n ++ f n ∷ []) i d ≡ f i
        go (yes q) k =
            ap (λ (j : ℕ). get_or (up_to f n ++ f n ∷ []) j d) (q ∙ sym (length-up_to n)) ∙ get_or-append_seam (up_to f n) (f n) [] d ∙ ap f (sym q)
        go (no q) k = let l : i < n = omega arith in get_or-append (up_to f n) (f n ∷ []) d i (omega (arith, length-up_to n)) ∙ k l

    module _ (ys : List A) where
      -- i elements are new, and the others as they were
      abbrev pub filled : ℕ → List A
      filled i = up_to f i ++ drop i ys

      -- one turn
      pub filled_next : (i : ℕ) → i < length ys → set (filled i) i (f i) ≡ filled (i + 1)
      filled_next i l = go (drop_at ys i l)
        where
          go : (y : A) × (drop i ys ≡ y ∷ drop (suc i) ys) → set (filled i) i (f i) ≡ filled (i + 1)
          go (y, e) =
              ap (λ (l : List A). set (up_to f i ++ l) i (f i)) e ∙ ap (λ (k : ℕ). set (up_to f i ++ y ∷ drop (suc i) ys) k (f i)) (sym (length-up_to i))
              ∙ set_after (up_to f i) y (f i) (drop (suc i) ys) ∙ sym (append_assoc (up_to f i) (f i ∷ []) (drop (suc i) ys)) ∙ ap filled (sym (add-one i))

      pub filled_at : (n i : ℕ) (d : A) → i < n → get_or (filled n) i d ≡ f i
      filled_at n i d h = get_or-append (up_to f n) (drop n ys) d i (omega (arith, length-up_to n)) ∙ up_to_at n i d h
