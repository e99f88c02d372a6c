-- Two texts that are read as one plan differ in comments, and in numbers from 255 on.
use mathlib.Core.Path.{◌≡◌, refl, sym, ◌∙◌}
use mathlib.Core.Logic.{◌⊎◌, inl, inr}
use mathlib.Core.Bool.{Bool, true, false, cond}
use mathlib.Core.List.{List, [], ◌∷◌, map, cons-ne-nil, head-eq_of_cons-eq, tail-eq_of_cons-eq}
use Prim.Native.Nat.{ℕ, ◌≤◌}
use native.Mathlib.Omega.{arith}
use lib.Dec.{ltb}
use borrow.Author.Tests.{ltb-true, ltb-false}
use Rattle.plan_lines.specs.PlanText.{text_of, as_byte, plan, read_plan}
use Rattle.plan_lines.proofs.Comments.{stripped, Spells, nothing_else}

-- equal numbers, or numbers from 255 on
abbrev pub Alike : List ℕ → List ℕ → Type 0
Alike [] [] = Unit
Alike [] (m ∷ ms) = ⊥
Alike (n ∷ ns) [] = ⊥
Alike (n ∷ ns) (m ∷ ms) = ((n ≡ m) ⊎ ((255 ≤ n) × (255 ≤ m))) × Alike ns ms

byte_alike : (n m : ℕ) → as_byte n ≡ as_byte m → (n ≡ m) ⊎ ((255 ≤ n) × (255 ≤ m))
byte_alike n m h = go (ltb n 255) (ltb m 255) refl refl h
  where
    go : (x y : Bool) → ltb n 255 ≡ x → ltb m 255 ≡ y → cond x n 255 ≡ cond y m 255 → (n ≡ m) ⊎ ((255 ≤ n) × (255 ≤ m))
    go true true p q h = inl h
    go true false p q h = absurd (omega (arith, ltb-true n 255 p, h))
    go false true p q h = absurd (omega (arith, ltb-true m 255 q, h))
    go false false p q h = inr (ltb-false n 255 p, ltb-false m 255 q)

numbers_alike : (ns ms : List ℕ) → map as_byte ns ≡ map as_byte ms → Alike ns ms
numbers_alike [] [] h = tt
numbers_alike [] (m ∷ ms) h = cons-ne-nil (as_byte m) (map as_byte ms) (sym h)
numbers_alike (n ∷ ns) [] h = cons-ne-nil (as_byte n) (map as_byte ns) h
numbers_alike (n ∷ ns) (m ∷ ms) h = (byte_alike n m (head-eq_of_cons-eq h), numbers_alike ns ms (tail-eq_of_cons-eq h))

-- the texts of numbers that are alike
pub record SamePlan (t u : List ℕ) : Type 0 where
  pub ns : List ℕ
  pub ms : List ℕ
  pub one : t ≡ text_of ns
  pub another : u ≡ text_of ms
  pub alike : Alike ns ms

-- whatever comments they have
pub two_texts : (t u p : List ℕ) → read_plan t ≡ plan p → read_plan u ≡ plan p → SamePlan (stripped t) (stripped u)
two_texts t u p h k = build (nothing_else t p h) (nothing_else u p k)
  where
    build : Spells (stripped t) p → Spells (stripped u) p → SamePlan (stripped t) (stripped u)
    build x y =
        record {
          ns = x.numbers;
          ms = y.numbers;
          one = x.spelled;
          another = y.spelled;
          alike = numbers_alike x.numbers y.numbers (x.as_read ∙ sym y.as_read);
        }

-- texts without comments
pub two_plain_texts : (t u p : List ℕ) → stripped t ≡ t → stripped u ≡ u → read_plan t ≡ plan p → read_plan u ≡ plan p → SamePlan t u
two_plain_texts t u p c d h k = rw (c, d) at (two_texts t u p h k)
