-- Laws of bytes that are written: texts in turn, and a whole text.
use mathlib.Core.Path.{◌≡◌, refl, sym, ap₂, ◌∙◌}
use mathlib.Core.List.{List, [], ◌∷◌, ◌++◌}
use Prim.Native.Nat.{ℕ, suc, ◌+◌, ◌/◌, ◌%◌, ◌^◌, ◌<◌, ◌≤◌}
use native.Mathlib.Nat.{add-zero, zero-add}
use native.Mathlib.Numerals.{add-one}
use native.Mathlib.Omega.{arith}
use lib.ListN.{length, get_or, take, drop, set, length-append}
use lib.Seq.{sets, sets-eq, length-sets, set_out, take-suc, take_at, length-take-le}
use Rattle.text.specs.Text.{digit, decimal}
use Rattle.text.specs.Area.{written, Wrote, Filled}
use Rattle.text.proofs.Decimal.{decimal_one, decimal_more, few_digits, nineteen_digits}

sets-append : (xs ys b : List ℕ) (at : ℕ) → sets b at (xs ++ ys) ≡ sets (sets b at xs) (at + length xs) ys
sets-append [] ys b at = rw add-zero
sets-append (x ∷ xs) ys b at =
    let e : suc at + length xs ≡ at + suc (length xs) = omega arith in
    sets-append xs ys (set b at x) (suc at) ∙ rw e

pub written-append : (xs ys b : List ℕ) (at : ℕ) → written (xs ++ ys) at b ≡ written ys (at + length xs) (written xs at b)
unfolding written
written-append xs ys b at = sets-append xs ys b at

pub length-written : (xs b : List ℕ) (at : ℕ) → length (written xs at b) ≡ length b
unfolding written
length-written xs b at = length-sets b at xs

-- a text that fits: the area is the text, and then what stood after
pub written_whole : (xs b : List ℕ) → length xs ≤ length b → written xs 0 b ≡ xs ++ drop (length xs) b
unfolding written
written_whole xs b h = let e : 0 + length xs ≡ length xs = omega arith in sets-eq xs b 0 (omega arith) ∙ rw e

-- One text after another

pub then : {b mid out : List ℕ} {at j k : ℕ} {xs ys : List ℕ} → Wrote b at xs j mid → Wrote mid j ys k out → Wrote b at (xs ++ ys) k out
then {b} {mid} {out} {at} {j} {k} {xs} {ys} v w =
    record {
      after = omega (arith, v.after, w.after, length-append xs ys);
      area = w.area ∙ ap₂ (λ (i : ℕ) (l : List ℕ). written ys i l) v.after v.area ∙ sym (written-append xs ys b at);
    }

-- From the start of the area on

pub from_start : {b out : List ℕ} {r : ℕ} {xs : List ℕ} → Wrote b 0 xs r out → Filled b xs r out
from_start v = record { size = v.after ∙ zero-add _; area = v.area }

-- a text that fits stands at the front
pub at_front : (b xs : List ℕ) (r : ℕ) (out : List ℕ) → Filled b xs r out → length xs ≤ length b → take r out ≡ xs
at_front b xs r out f h = rw (f.area, written_whole xs b h) (take_at xs (drop (length xs) b) r (sym f.size))

-- One byte, which fits or does not

module _ (b : List ℕ) (at x : ℕ) (out : List ℕ) where
  pub stored : out ≡ set b at x → Wrote b at (x ∷ []) (at + 1) out
  unfolding written
  stored e = record { after = refl; area = e }

  pub dropped : length b ≤ at → out ≡ b → Wrote b at (x ∷ []) (at + 1) out
  unfolding written
  dropped h e = record { after = refl; area = e ∙ sym (set_out b at x h) }

-- A word, byte after byte

module _ (b : List ℕ) (at : ℕ) where
  pub no_bytes : Wrote b at [] at b
  unfolding written
  no_bytes = record { after = sym (add-zero at); area = refl }

  pub one_byte_more : (word mid out : List ℕ) (i j k : ℕ) → i < length word
      → Wrote b at (take i word) j mid → Wrote mid j (get_or word i 0 ∷ []) k out → Wrote b at (take (i + 1) word) k out
  one_byte_more word mid out i j k h v w = rw (add-one i, take-suc word i 0 h) (then v w)

  -- its bytes stored one by one
  pub stored_more : (word out : List ℕ) (i : ℕ) → i < length word → out ≡ written (take i word) at b
      → set out (at + i) (get_or word i 0) ≡ written (take (i + 1) word) at b
  stored_more word out i h e =
      let n : length (take i word) ≡ i = length-take-le i word (omega arith) in
      let x : ℕ = get_or word i 0 in
      (one_byte_more word out (set out (at + i) x) i (at + i) (at + i + 1) h (record { after = omega (arith, n); area = e })
      (stored out (at + i) x (set out (at + i) x) refl)).area

-- A number: its last digit after the others

module _ (b : List ℕ) (at n : ℕ) (h : n < 2 ^ 64) where
  pub one_digit : (out : List ℕ) (k : ℕ) → n < 10 → Wrote b at (digit n) k out → Wrote b at (decimal n) k out × (k ≤ at + 20)
  one_digit out k l v = (rw (decimal_one n l) v, omega (arith, v.after))

  pub few_digits_written : (out : List ℕ) (k : ℕ) → n < 1000 → Wrote b at (decimal n) k out → k ≤ at + 20
  few_digits_written out k l v = omega (arith, v.after, few_digits 2 n (omega arith))

  pub last-digit : (mid out : List ℕ) (j k : ℕ) → 10 ≤ n
      → Wrote b at (decimal (n / 10)) j mid → Wrote mid j (digit (n % 10)) k out → Wrote b at (decimal n) k out × (k ≤ at + 20)
  last-digit mid out j k l v w =
      (rw (decimal_more n l) (then v w), omega (arith, v.after, w.after, nineteen_digits n h))
