-- The digits of a number: one by one, and how many.
use mathlib.Core.Path.{◌≡◌, refl, ap}
use mathlib.Core.Bool.{Bool, true, false}
use mathlib.Core.List.{List, ◌++◌}
use Prim.Native.Nat.{ℕ, zero, suc, ◌/◌, ◌%◌, ◌^◌, ◌<◌, ◌≤◌}
use native.Mathlib.Nat.{pow-suc}
use native.Mathlib.Omega.{arith}
use lib.Dec.{ltb}
use lib.ListN.{length, length-append}
use borrow.Author.Tests.{lt-ltb, le-ltb, ltb-true, ltb-false}
use Rattle.text.specs.Text.{digit, last_digits, decimal}

-- one digit, or more
pub by_size : {P : Type 0} (n : ℕ) → (n < 10 → P) → (10 ≤ n → P) → P
by_size {P} n one more = go (ltb n 10) refl
  where
    go : (b : Bool) → ltb n 10 ≡ b → P
    go true e = one (ltb-true n 10 e)
    go false e = more (ltb-false n 10 e)

-- any two bounds that are large enough give the same digits
enough : (j k n : ℕ) → n < j → n < k → last_digits j n ≡ last_digits k n
enough zero k n h l = absurd (omega arith)
enough (suc j) zero n h l = absurd (omega arith)
enough (suc j) (suc k) n h l =
    by_size n (λ s. rw (lt-ltb n 10 s))
    (λ s. rw (le-ltb n 10 s) (ap (λ (l : List ℕ). l ++ digit (n % 10)) (enough j k (n / 10) (omega arith) (omega arith))))

pub decimal_one : (n : ℕ) → n < 10 → decimal n ≡ digit n
unfolding decimal
decimal_one n h = rw (lt-ltb n 10 h)

pub decimal_more : (n : ℕ) → 10 ≤ n → decimal n ≡ decimal (n / 10) ++ digit (n % 10)
unfolding decimal
decimal_more n h =
    rw (le-ltb n 10 h)
    (ap (λ (l : List ℕ). l ++ digit (n % 10)) (enough n (suc (n / 10)) (n / 10) (omega arith) (omega arith)))

pub few_digits : (k n : ℕ) → n < 10 ^ suc k → length (decimal n) ≤ suc k
few_digits zero n h = rw (decimal_one n (omega arith)) (omega arith)
few_digits (suc k) n h =
    by_size n (λ s. rw (decimal_one n s) (omega arith))
    (λ s. rw (decimal_more n s, length-append) (omega (arith, few_digits k (n / 10) (omega (arith, pow-suc 10 (suc k))))))

-- a tenth of a number of 64 bits
pub nineteen_digits : (n : ℕ) → n < 2 ^ 64 → length (decimal (n / 10)) ≤ 19
nineteen_digits n h = few_digits 18 (n / 10) (omega arith)
