-- A step's number as a byte, and equal lists.
use mathlib.Core.Path.{◌≡◌, refl, sym, ap, ◌∙◌}
use mathlib.Core.Bool.{Bool, true, false, cond, ◌&&◌, true≢false}
use mathlib.Core.List.{List, [], ◌∷◌, ◌++◌}
use Prim.Native.Nat.{ℕ, ◌+◌, ◌*◌}
use native.Mathlib.Omega.{arith}
use lib.Dec.{eqb, ltb}
use borrow.Author.Tests.{le-ltb, ltb-false, eqb-true, eq-eqb}
use Rattle.lists.specs.Lists.{all, is_empty}
use Rattle.lists.proofs.Tests.{not_both}
use Rattle.text.specs.Text.{decimal, is_digit}
use Rattle.text.proofs.Digits.{decimal_digits}
use Rattle.plan_lines.specs.PlanText.{same, as_byte}

-- a byte's number from a byte's number
pub as_byte_on : (n d : ℕ) → as_byte (10 * as_byte n + d) ≡ as_byte (10 * n + d)
as_byte_on n d = go (ltb n 255) refl
  where
    go : (e : Bool) → ltb n 255 ≡ e → as_byte (10 * cond e n 255 + d) ≡ as_byte (10 * n + d)
    go true e = refl
    go false e = rw (le-ltb (10 * 255 + d) 255 (omega arith), le-ltb (10 * n + d) 255 (omega (arith, ltb-false n 255 e)))

-- Equal lists

pub same_refl : (xs : List ℕ) → same xs xs ≡ true
same_refl [] = refl
same_refl (x ∷ xs) = rw (eq-eqb x x refl, same_refl xs)

pub same_eq : (xs ys : List ℕ) → same xs ys ≡ true → xs ≡ ys
same_eq [] [] e = refl
same_eq [] (y ∷ ys) e = absurd (true≢false (sym e))
same_eq (x ∷ xs) [] e = absurd (true≢false (sym e))
same_eq (x ∷ xs) (y ∷ ys) e = go (eqb x y) refl e (same_eq xs ys)
  where
    go : (b : Bool) → eqb x y ≡ b → (b && same xs ys) ≡ true → (same xs ys ≡ true → xs ≡ ys) → (x ∷ xs) ≡ (y ∷ ys)
    go true p e rest = λ z. eqb-true x y p z ∷ rest e z
    go false p e rest = absurd (true≢false (sym e))

-- Digits, and then the closing bracket alone

abbrev pub closes : List ℕ → Bool
closes [] = false
closes (b ∷ l) = cond (is_digit b) (closes l) (eqb b 41 && is_empty l)

pub closes_digits : (ds l : List ℕ) → all is_digit ds ≡ true → closes (ds ++ l) ≡ closes l
closes_digits [] l e = refl
closes_digits (d ∷ ds) l e = go (is_digit d) e (closes_digits ds l)
  where
    go : (b : Bool) → (b && all is_digit ds) ≡ true → (all is_digit ds ≡ true → closes (ds ++ l) ≡ closes l)
        → cond b (closes (ds ++ l)) (eqb d 41 && is_empty (ds ++ l)) ≡ closes l
    go true e rest = rest e
    go false e rest = absurd (true≢false (sym e))

pub not_same : (xs : List ℕ) (n : ℕ) → closes xs ≡ false → same xs (decimal n ++ (41 ∷ [])) ≡ false
not_same xs n e = go (same xs (decimal n ++ (41 ∷ []))) refl
  where
    go : (b : Bool) → same xs (decimal n ++ (41 ∷ [])) ≡ b → b ≡ false
    go true p = absurd (not_both (ap closes (same_eq xs (decimal n ++ (41 ∷ [])) p) ∙ closes_digits (decimal n) (41 ∷ []) (decimal_digits n)) e)
    go false p = refl
