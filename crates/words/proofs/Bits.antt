-- A word is the number of its bits; so the code's words are those of a plan that solves.
use mathlib.Core.Path.{◌≡◌, refl, sym, ap, ◌∙◌, fun_ext}
use mathlib.Core.Bool.{cond}
use Prim.Native.Nat.{ℕ, zero, suc, ◌+◌, ◌*◌, ◌/◌, ◌%◌, ◌^◌, ◌<◌}
use native.Mathlib.Nat.{div-one, div-div-eq-div-mul, pow-succ'}
use native.Mathlib.Omega.{arith}
use lib.Dec.{eqb}
use Rattle.state.specs.Member.{bit}
use Rattle.plan.specs.Walked.{solved}
use Rattle.words.specs.Numbers.{Call, answered, bits, of_verdict}

digit : (d : ℕ) → d < 2 → cond (eqb d 1) 1 0 ≡ d
digit zero h = refl
digit (suc zero) h = refl
digit (suc (suc d)) h = absurd (omega arith)

-- the bits after the first are those of the half
bit_half : (w k : ℕ) → bit w (suc k) ≡ bit (w / 2) k
unfolding bit
bit_half w k = ap (λ (x : ℕ). eqb (x % 2) 1) (ap (λ (x : ℕ). w / x) (pow-succ' 2 k) ∙ sym (div-div-eq-div-mul w 2 (2 ^ k)))

bit_first : (w : ℕ) → cond (bit w 0) 1 0 ≡ w % 2
unfolding bit
bit_first w = rw (div-one w) (digit (w % 2) (omega arith))

bits_of : (n w : ℕ) → w < 2 ^ n → bits n (bit w) ≡ w
unfolding bits
bits_of zero w h = omega arith
bits_of (suc n) w h =
    let p : 2 ^ suc n ≡ 2 * 2 ^ n = pow-succ' 2 n in
    let half : w / 2 < 2 ^ n = omega (arith, p) in
    let e : w % 2 + 2 * (w / 2) ≡ w = omega arith in
    rw (bit_first w, fun_ext (bit_half w), bits_of n (w / 2) half) e

pub solved_words : (c : Call) (cost m n : ℕ) → m < 2 ^ 64 → c ≡ answered 1 0 cost m n 0 0 → c ≡ of_verdict (solved cost (bit m)) n
solved_words c cost m n h e = e ∙ ap (λ (x : ℕ). answered 1 0 cost x n 0 0) (sym (bits_of 64 m h))
