-- The difference of two amounts, as a signed number of 64 bits.
use mathlib.Core.Path.{◌≡◌, sym, ap₂, ◌∙◌, subst}
use mathlib.Core.Bool.{Bool, true, false, cond}
use Prim.Native.Nat.{ℕ, zero, suc, ◌-◌, ◌<◌}
use native.Mathlib.Omega.{arith}
use lib.Dec.{ltb}
use lib.IntN.{ℤ, pos, negsuc, ◌-ℤ◌}
use mir.Syntax.{w64}
use mir.Val.{SFits, to_z, of_z}
use mir.Facts.{to_z-of_z, to_z_pos}
use Rattle.layout.specs.Counting.{AMPLE}

fits : (a b : ℕ) → a < AMPLE → b < AMPLE → SFits w64 (pos a -ℤ pos b)
fits a zero h k = record { sfits = omega arith }
fits a (suc b) h k = go (ltb a (suc b))
  where
    go : (t : Bool) → SFits w64 (cond t (negsuc (suc b - suc a)) (pos (a - suc b)))
    go true = record { sfits = omega arith }
    go false = record { sfits = omega arith }

module _ (a b : ℕ) (h : a < AMPLE) (k : b < AMPLE) where
  signed : to_z w64 a -ℤ to_z w64 b ≡ pos a -ℤ pos b
  signed = ap₂ (λ (x y : ℤ). x -ℤ y) (to_z_pos w64 {n = a} (omega arith)) (to_z_pos w64 {n = b} (omega arith))

  pub difference_fits : SFits w64 (to_z w64 a -ℤ to_z w64 b)
  difference_fits = subst (SFits w64) (sym signed) (fits a b h k)

  pub difference : to_z w64 (of_z w64 (to_z w64 a -ℤ to_z w64 b)) ≡ pos a -ℤ pos b
  difference = to_z-of_z difference_fits ∙ signed
