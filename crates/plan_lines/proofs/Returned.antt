-- Writing a plan and reading its text returns the plan.
use mathlib.Core.Path.{◌≡◌, refl, ap, ◌∙◌}
use mathlib.Core.Bool.{Bool, true, false, cond, ◌&&◌}
use mathlib.Core.List.{List, [], ◌∷◌, ◌++◌, map}
use Prim.Native.Nat.{ℕ, suc, ◌*◌, ◌≤◌, ◌<◌}
use native.Mathlib.Omega.{arith}
use lib.Dec.{T, ltb, ltb→lt}
use lib.ListN.{length, length-append}
use borrow.Author.Tests.{ne_eqb, ltb-false}
use Rattle.lists.specs.Lists.{all}
use Rattle.lists.proofs.Tests.{as_t, never, tests, and_left, and_right, without, none_of, all_both, all_implies}
use Rattle.text.specs.Text.{decimal, is_digit, number_from}
use Rattle.text.proofs.Decimal.{few_digits}
use Rattle.plan_lines.specs.PlanText.{NEWLINE, step_line, text_of, lines_of, as_byte, step, step_or, line_of, plan, read_lines, read_plan}
use Rattle.text.proofs.Digits.{decimal_digits, number_append, number_back}
use Rattle.plan_lines.proofs.Numerals.{same_refl}
use Rattle.plan_lines.proofs.Splitting.{is_newline, one_line, line_ended, by_lines}

-- The line of step n

pub digit_inside : (b : ℕ) → T (is_digit b) → T (without is_newline b)
digit_inside b d = rw (ne_eqb b NEWLINE (λ e. never d (ap is_digit e))) tt

pub one_line_lem : (n : ℕ) → T (one_line (step_line n))
unfolding step_line
one_line_lem n =
    let ds : T (none_of is_newline (decimal n)) = all_implies is_digit (without is_newline) digit_inside (decimal n) (as_t (decimal_digits n)) in
    all_both (without is_newline) (decimal n) (41 ∷ []) ds tt

number_in : (n : ℕ) → number_from 0 (step_line n) ≡ n
unfolding step_line
number_in n = number_append 0 (decimal n) (41 ∷ []) ∙ number_back n

pub line_back : (n : ℕ) → line_of (step_line n) ≡ step (as_byte n)
unfolding step_line
line_back n = ap (step_or (step_line n)) (number_in n) ∙ rw (same_refl (decimal n ++ (41 ∷ [])))

-- The plan

lines_back : (i : ℕ) (ns : List ℕ) → read_lines i (lines_of (text_of ns)) ≡ plan (map as_byte ns)
unfolding text_of
lines_back i [] = refl
lines_back i (n ∷ ns) = rw (line_ended (step_line n) (text_of ns) (one_line_lem n), line_back n, lines_back (suc i) ns)

-- the text of numbers of any size
pub read_back : (ns : List ℕ) → length (text_of ns) ≤ 65536 → read_plan (text_of ns) ≡ plan (map as_byte ns)
read_back ns h = by_lines (text_of ns) h ∙ lines_back 0 ns

-- steps of one byte
abbrev pub bytes : List ℕ → Bool
bytes p = all (λ (n : ℕ). ltb n 256) p

pub byte_kept : (n : ℕ) → n < 256 → as_byte n ≡ n
byte_kept n h = go (ltb n 255) refl
  where
    go : (b : Bool) → ltb n 255 ≡ b → cond b n 255 ≡ n
    go true e = refl
    go false e = omega (arith, ltb-false n 255 e)

bytes_kept : (p : List ℕ) → T (bytes p) → map as_byte p ≡ p
bytes_kept [] h = refl
bytes_kept (n ∷ p) h =
    let t : T (ltb n 256 && bytes p) = h in
    λ z. byte_kept n (ltb→lt n 256 (and_left (ltb n 256) (bytes p) t)) z ∷ bytes_kept p (and_right (ltb n 256) (bytes p) t) z

line_length : (n : ℕ) → n < 256 → length (step_line n) ≤ 6
unfolding step_line
line_length n h = rw (length-append (decimal n) (41 ∷ [])) (omega (arith, few_digits 2 n (omega arith)))

pub text_length : (p : List ℕ) → T (bytes p) → length (text_of p) ≤ 7 * length p
unfolding text_of
text_length [] h = omega arith
text_length (n ∷ p) h =
    let t : T (ltb n 256 && bytes p) = h in
    let line : length (step_line n) ≤ 6 = line_length n (ltb→lt n 256 (search tests)) in
    let more : length (text_of p) ≤ 7 * length p = text_length p (search tests) in
    rw (length-append (step_line n) (NEWLINE ∷ text_of p)) (omega arith)

-- every plan of at most 2,048 steps, of one byte each
pub returned : (p : List ℕ) → bytes p ≡ true → length p ≤ 2048 → read_plan (text_of p) ≡ plan p
returned p h few = read_back p (omega (arith, text_length p (as_t h))) ∙ ap plan (bytes_kept p (as_t h))
