-- The lowest bit of a word, and the word without it.
use mathlib.Core.Path.{◌≡◌, refl, sym, ap, ◌∙◌, subst}
use mathlib.Core.Bool.{Bool, true, false, not, ◌&&◌, true≢false}
use Prim.Native.Nat.{ℕ, zero, suc, ◌*◌, ◌-◌, ◌/◌, ◌%◌, ◌^◌, ◌<◌}
use native.Mathlib.Nat.{div-one, pow-suc, pow-succ', div-div-eq-div-mul, div-lt_iff_lt-mul, zero-lt-suc}
use native.Mathlib.Omega.{arith}
use lib.Arith.{lt_of_le-ne}
use lib.Bits.{bit_and, and_le_l}
use lib.Count.{count_trailing_zeros, under}
use lib.Dec.{eqb}
use lib.Pow.{pow-lt}
use borrow.Author.Tests.{eq-eqb}
use Rattle.state.specs.Member.{bit}
use Rattle.state.proofs.Bits.{mask_law, shifted_one, minus_law}

-- the bits of a word, from its lowest on

first_bit : (w : ℕ) → bit w 0 ≡ eqb (w % 2) 1
unfolding bit
first_bit w = rw div-one

later_bit : (w i : ℕ) → bit w (suc i) ≡ bit (w / 2) i
unfolding bit
later_bit w i = ap (λ (x : ℕ). eqb (x % 2) 1) (ap (λ (x : ℕ). w / x) (pow-succ' 2 i) ∙ sym (div-div-eq-div-mul w 2 (2 ^ i)))

half_lt : (d w : ℕ) → w < 2 ^ suc d → w / 2 < 2 ^ d
half_lt d w h = (div-lt_iff_lt-mul (zero-lt-suc 1)).1 (subst (λ (x : ℕ). w < x) (pow-suc 2 d) h)

-- of a word of d bits that is not 0
pub lowest_within : (d w : ℕ) → 0 < w → w < 2 ^ d → count_trailing_zeros d w < d
unfolding count_trailing_zeros
lowest_within zero w h k = absurd (omega arith)
lowest_within (suc d) w h k = go (w % 2) refl (λ e. lowest_within d (w / 2) (omega arith) (half_lt d w k))
  where
    go : (r : ℕ) → w % 2 ≡ r → (w % 2 ≡ 0 → count_trailing_zeros d (w / 2) < d) → under r (count_trailing_zeros d (w / 2)) < suc d
    go zero e rest = let h : count_trailing_zeros d (w / 2) < d = rest e in omega arith
    go (suc r) e rest = omega arith

pub lowest_set : (d w : ℕ) → 0 < w → w < 2 ^ d → bit w (count_trailing_zeros d w) ≡ true
unfolding count_trailing_zeros
lowest_set zero w h k = absurd (omega arith)
lowest_set (suc d) w h k = go (w % 2) refl (λ e. lowest_set d (w / 2) (omega arith) (half_lt d w k))
  where
    go : (r : ℕ) → w % 2 ≡ r → (w % 2 ≡ 0 → bit (w / 2) (count_trailing_zeros d (w / 2)) ≡ true) → bit w (under r (count_trailing_zeros d (w / 2))) ≡ true
    go zero e rest = later_bit w (count_trailing_zeros d (w / 2)) ∙ rest e
    go (suc r) e rest = first_bit w ∙ eq-eqb (w % 2) 1 (omega arith)

pub none_lower : (d w j : ℕ) → j < count_trailing_zeros d w → bit w j ≡ false
unfolding count_trailing_zeros
none_lower zero w j h = absurd (omega arith)
none_lower (suc d) w zero h = go (w % 2) refl h
  where
    go : (r : ℕ) → w % 2 ≡ r → 0 < under r (count_trailing_zeros d (w / 2)) → bit w 0 ≡ false
    go zero e h = first_bit w ∙ ap (λ (x : ℕ). eqb x 1) e
    go (suc r) e h = absurd (omega arith)
none_lower (suc d) w (suc j) h = go (w % 2) h (none_lower d (w / 2) j)
  where
    go : (r : ℕ) → suc j < under r (count_trailing_zeros d (w / 2)) → (j < count_trailing_zeros d (w / 2) → bit (w / 2) j ≡ false) → bit w (suc j) ≡ false
    go zero h rest = later_bit w j ∙ rest (omega arith)
    go (suc r) h rest = absurd (omega arith)

-- the word without bit n
module _ (w n : ℕ) (h : w < 2 ^ 64) (l : n < 64) where
  abbrev pub without : ℕ
  without = bit_and w ((2 ^ 64 - 1) - 1 * 2 ^ n % 2 ^ 64)

  pub without-bit : (j : ℕ) → bit without j ≡ (bit w j && not (eqb j n))
  without-bit j =
      rw (shifted_one n l) (minus_law 64 w (2 ^ n) j h (pow-lt l) ∙ ap (λ (x : Bool). bit w j && not x) (mask_law n j))

  pub without_less : bit w n ≡ true → without < w
  without_less s =
      lt_of_le-ne (and_le_l w ((2 ^ 64 - 1) - 1 * 2 ^ n % 2 ^ 64))
      (λ e. true≢false (sym s ∙ ap (λ (x : ℕ). bit x n) (sym e) ∙ without-bit n ∙ rw (s, eq-eqb n n refl)))
