-- Numbers in decimal: digits alone, no leading zero, and read back.
use mathlib.Core.Path.{◌≡◌, refl, ap, ◌∙◌}
use mathlib.Core.Bool.{true, cond}
use mathlib.Core.List.{List, [], ◌∷◌, ◌++◌}
use Prim.Native.Nat.{ℕ, zero, suc, ◌+◌, ◌*◌, ◌-◌, ◌/◌, ◌%◌, ◌≤◌, ◌<◌}
use native.Mathlib.Omega.{arith}
use lib.Dec.{leb}
use borrow.Author.Tests.{le-leb, leb-true}
use Rattle.lists.specs.Lists.{all}
use Rattle.lists.proofs.Tests.{both_true, all_append}
use Rattle.text.specs.Text.{digit, decimal, is_digit, number_from}
use Rattle.text.proofs.Decimal.{by_size, decimal_one, decimal_more}

-- Digits

pub digit_is : (d : ℕ) → d < 10 → is_digit (48 + d) ≡ true
digit_is d h = rw (le-leb 48 (48 + d) (omega arith), le-leb (48 + d) 57 (omega arith))

pub digit_range : (b : ℕ) → is_digit b ≡ true → (48 ≤ b) × (b ≤ 57)
digit_range b e = let (p, q) = both_true (leb 48 b) (leb b 57) e in (leb-true 48 b p, leb-true b 57 q)

all_digits : (k n : ℕ) → n < k → all is_digit (decimal n) ≡ true
all_digits zero n h = absurd (omega arith)
all_digits (suc k) n h =
    by_size n (λ s. rw (decimal_one n s, digit_is n s))
    (λ s. rw (decimal_more n s, all_append is_digit (decimal (n / 10)) (digit (n % 10)), all_digits k (n / 10) (omega arith), digit_is (n % 10) (omega arith)))

pub decimal_digits : (n : ℕ) → all is_digit (decimal n) ≡ true
decimal_digits n = all_digits (suc n) n (omega arith)

-- the first digit, 0 in the number 0 alone
pub record Headed (n : ℕ) : Type 0 where
  pub first : ℕ
  pub others : List ℕ
  pub spelled : decimal n ≡ (48 + first) ∷ others
  pub small : first < 10
  pub leading : first ≡ 0 → n ≡ 0

headed_by : (k n : ℕ) → n < k → Headed n
headed_by zero n h = absurd (omega arith)
headed_by (suc k) n h =
    by_size n (λ s. record { first = n; others = []; spelled = decimal_one n s; small = s; leading = λ e. e })
    (λ s. more s (headed_by k (n / 10) (omega arith)))
  where
    more : 10 ≤ n → Headed (n / 10) → Headed n
    more s d =
        record {
          first = d.first;
          others = d.others ++ digit (n % 10);
          spelled = decimal_more n s ∙ ap (λ (l : List ℕ). l ++ digit (n % 10)) d.spelled;
          small = d.small;
          leading = λ e. absurd (omega (arith, d.leading e));
        }

pub headed : (n : ℕ) → Headed n
headed n = headed_by (suc n) n (omega arith)

pub one_more : (n d : ℕ) → 1 ≤ n → d < 10 → decimal (10 * n + d) ≡ decimal n ++ ((48 + d) ∷ [])
one_more n d h l =
    let q : (10 * n + d) / 10 ≡ n = omega arith in
    let r : (10 * n + d) % 10 ≡ d = omega arith in
    decimal_more (10 * n + d) (omega arith) ∙ (λ z. decimal (q z) ++ digit (r z))

-- read back
pub number_append : (k : ℕ) (xs ys : List ℕ) → number_from k (xs ++ ys) ≡ number_from (number_from k xs) ys
number_append k [] ys = refl
number_append k (x ∷ xs) ys = number_append (cond (is_digit x) (10 * k + (x - 48)) k) xs ys

number_by : (k n : ℕ) → n < k → number_from 0 (decimal n) ≡ n
number_by zero n h = absurd (omega arith)
number_by (suc k) n h =
    by_size n (λ s. rw (decimal_one n s, digit_is n s) (omega arith))
    (λ s. rw (decimal_more n s, number_append 0 (decimal (n / 10)) (digit (n % 10)), number_by k (n / 10) (omega arith), digit_is (n % 10) (omega arith)) (omega arith))

pub number_back : (n : ℕ) → number_from 0 (decimal n) ≡ n
number_back n = number_by (suc n) n (omega arith)
