-- States of the same facts are the same two words.
use mathlib.Core.Path.{◌≡◌, refl, sym, ◌∙◌, ap}
use mathlib.Core.Bool.{Bool, true, false}
use Prim.Native.Nat.{ℕ, zero, suc, ◌+◌, ◌*◌, ◌/◌, ◌%◌, ◌^◌, ◌<◌}
use native.Mathlib.Nat.{pow-succ', div-div-eq-div-mul, div-one}
use native.Mathlib.Omega.{arith}
use lib.Dec.{eqb}
use borrow.Author.Tests.{eqb-true, eqb-false}
use Rattle.state.specs.Member.{bit, member}
use Rattle.state.specs.declared.State.{State}
use Rattle.state.proofs.Words.{in_low, in_high}

bit_half : (a i : ℕ) → bit (a / 2) i ≡ bit a (suc i)
unfolding bit
bit_half a i = ap (λ (x : ℕ). eqb (x % 2) 1) (div-div-eq-div-mul a 2 (2 ^ i) ∙ ap (λ (m : ℕ). a / m) (sym (pow-succ' 2 i)))

last-digit : (a b : ℕ) → bit a 0 ≡ bit b 0 → a % 2 ≡ b % 2
unfolding bit
last-digit a b e =
    let x : a / 2 ^ 0 ≡ a = div-one a in
    let y : b / 2 ^ 0 ≡ b = div-one b in
    go (eqb (a / 2 ^ 0 % 2) 1) refl e x y
  where
    go : (t : Bool) → eqb (a / 2 ^ 0 % 2) 1 ≡ t → t ≡ eqb (b / 2 ^ 0 % 2) 1 → a / 2 ^ 0 ≡ a → b / 2 ^ 0 ≡ b → a % 2 ≡ b % 2
    go true p q x y =
        let u : a / 2 ^ 0 % 2 ≡ 1 = eqb-true (a / 2 ^ 0 % 2) 1 p in
        let v : b / 2 ^ 0 % 2 ≡ 1 = eqb-true (b / 2 ^ 0 % 2) 1 (sym q) in
        ap (λ (m : ℕ). m % 2) (sym x) ∙ u ∙ sym v ∙ ap (λ (m : ℕ). m % 2) y
    go false p q x y =
        let u : a % 2 ≡ 1 → ⊥ = λ h. eqb-false (a / 2 ^ 0 % 2) 1 p (ap (λ (m : ℕ). m % 2) x ∙ h) in
        let v : b % 2 ≡ 1 → ⊥ = λ h. eqb-false (b / 2 ^ 0 % 2) 1 (sym q) (ap (λ (m : ℕ). m % 2) y ∙ h) in
        omega arith

bits_equal : (k a b : ℕ) → a < 2 ^ k → b < 2 ^ k → ((i : ℕ) → i < k → bit a i ≡ bit b i) → a ≡ b
bits_equal zero a b h g f = omega arith
bits_equal (suc k) a b h g f =
    let p : 2 ^ suc k ≡ 2 * 2 ^ k = pow-succ' 2 k in
    let halves : a / 2 ≡ b / 2 =
    bits_equal k (a / 2) (b / 2) (omega arith) (omega arith) (λ i l. bit_half a i ∙ f (suc i) (omega arith) ∙ sym (bit_half b i)) in
    omega (arith, last-digit a b (f 0 (omega arith)))

pub words_equal : (s r : State) → s.low < 2 ^ 64 → s.high < 2 ^ 64 → r.low < 2 ^ 64 → r.high < 2 ^ 64 → member s ≡ member r → s ≡ r
words_equal s r a b c d e =
    let l : s.low ≡ r.low =
    bits_equal 64 s.low r.low a c (λ i h. in_low s i h ∙ ap (λ (m : ℕ → Bool). m i) e ∙ sym (in_low r i h)) in
    let g : s.high ≡ r.high =
    bits_equal 64 s.high r.high b d (λ i h. in_high s i h ∙ ap (λ (m : ℕ → Bool). m (64 + i)) e ∙ sym (in_high r i h)) in
    λ i. record { low = l i; high = g i }
