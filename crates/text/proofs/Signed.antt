-- A signed number of 64 bits, read from its bits: below 0 or not.
use mathlib.Core.Path.{◌≡◌, refl, sym, ap, ◌∙◌, subst}
use mathlib.Core.Bool.{Bool, true, false}
use mathlib.Core.List.{◌++◌}
use Prim.Native.Nat.{ℕ, ◌^◌, ◌<◌}
use native.Mathlib.Omega.{arith}
use lib.IntN.{ℤ, pos, negsuc, nat_abs}
use lib.Signed.{lt_z}
use borrow.Author.Tests.{le-ltb}
use mir.Syntax.{w64}
use mir.Val.{SFits, of_z, to_z}
use mir.ValLaws.{to_z-of_z}
use Rattle.text.specs.Ascii.{ascii}
use Rattle.text.specs.Text.{decimal, integer}

-- z is -(n + 1)
pub record Below (z : ℤ) : Type 0 where
  pub n : ℕ
  pub small : n < 2 ^ 63
  pub is : z ≡ negsuc n

pub record NotBelow (z : ℤ) : Type 0 where
  pub n : ℕ
  pub small : n < 2 ^ 63
  pub is : z ≡ pos n

-- the sign that the test has found
abbrev Sign : Bool → ℤ → Type 0
Sign true z = Below z
Sign false z = NotBelow z

sign : (z : ℤ) → SFits w64 z → Sign (lt_z z (pos 0)) z
sign (pos n) f = rw (le-ltb n 0 (omega arith)) (record { n = n; small = f.sfits; is = refl })
sign (negsuc n) f = record { n = n; small = f.sfits; is = refl }

module _ (z : ℤ) (f : SFits w64 z) where
  pub below : lt_z (to_z w64 (of_z w64 z)) (pos 0) ≡ true → Below z
  below e = subst (λ (b : Bool). Sign b z) (sym (ap (λ (x : ℤ). lt_z x (pos 0)) (to_z-of_z w64 z f)) ∙ e) (sign z f)

  -- m is how far z is from 0
  module _ (m : ℕ) (q : m ≡ nat_abs (to_z w64 (of_z w64 z))) where
    pub minus : Below z → integer z ≡ ascii "-" ++ decimal m
    minus b = rw (q, to_z-of_z w64 z f, b.is)

    pub plain : NotBelow z → integer z ≡ decimal m
    plain b = rw (q, to_z-of_z w64 z f, b.is)
