-- Numbers as bytes, and the line of a refusal.
use Rattle.std.specs.Prelude.{Bool, true, false, cond, ◌&&◌, List, [], ◌∷◌, ◌++◌, ℕ, zero, suc, ◌+◌, ◌*◌, ◌-◌, ◌/◌, ◌%◌, leb, ltb, ℤ, pos, negsuc}
use Prim.Native.Char.{code}
use Rattle.text.specs.Ascii.{ascii}

abbrev pub digit : ℕ → List ℕ
digit d = (code "0" + d) ∷ []

-- below ten one digit; from there on the digits of n / 10, and then the last. By cases, so that no more is computed than
-- n has digits
abbrev pub digits_by : Bool → (ℕ → List ℕ) → ℕ → List ℕ
digits_by true digits n = digit n
digits_by false digits n = digits (n / 10) ++ digit (n % 10)

-- the last k digits of n, or all where it has fewer
abbrev pub last_digits : ℕ → ℕ → List ℕ
last_digits zero n = []
last_digits (suc k) n = digits_by (ltb n 10) (last_digits k) n

-- all digits: n has no more than n + 1
unfoldable pub decimal : ℕ → List ℕ
decimal n = last_digits (suc n) n

-- below 0 it has a minus sign
abbrev pub integer : ℤ → List ℕ
integer (pos n) = decimal n
integer (negsuc n) = ascii "-" ++ decimal (suc n)

-- Digits read back

abbrev pub is_digit : ℕ → Bool
is_digit b = leb 48 b && leb b 57

-- the number that the digits in a text make, after digits that make n
abbrev pub number_from : ℕ → List ℕ → ℕ
number_from n [] = n
number_from n (b ∷ l) = number_from (cond (is_digit b) (10 * n + (b - 48)) n) l

-- `refused`, number and place
unfoldable pub refused_line : ℕ → ℕ → List ℕ
refused_line number place = ascii "refused " ++ decimal number ++ ascii " " ++ decimal place ++ ascii "\n"
