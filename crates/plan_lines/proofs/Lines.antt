-- One line, byte by byte: the form that the code finds is the line's.
use mathlib.Core.Path.{◌≡◌, refl, sym, ap, ◌∙◌}
use mathlib.Core.Bool.{Bool, true, false, cond}
use mathlib.Core.List.{List, [], ◌∷◌, ◌++◌, append_assoc}
use Prim.Native.Nat.{ℕ, ◌+◌, ◌*◌, ◌-◌, ◌≤◌, ◌<◌}
use native.Mathlib.Omega.{arith}
use lib.Dec.{eqb}
use borrow.Author.Tests.{eqb-true, eqb-false, ne_eqb, lt-ltb}
use Rattle.lists.proofs.Tests.{not_both}
use Rattle.text.specs.Text.{decimal, is_digit, number_from}
use Rattle.text.proofs.Decimal.{decimal_one}
use Rattle.plan_lines.specs.PlanText.{SEMICOLON, step_line, step_or, same, as_byte, Line, comment, step, other, line_of}
use Rattle.plan_lines.specs.Scan.{follow, is_opening}
use Rattle.plan_lines.specs.declared.scan.Mode.{Mode}
use Rattle.plan_lines.specs.declared.scan.Mode.TheVariants.{Opening, Comment, Bracket, Letter, Zero, Digits, Closed, Other}
use Rattle.text.proofs.Digits.{digit_is, digit_range, decimal_digits, Headed, headed, one_more}
use Rattle.plan_lines.proofs.Numerals.{as_byte_on, same_refl, closes, closes_digits, not_same}

-- a line's form after its bytes
abbrev pub run : Mode → List ℕ → Mode
run m [] = m
run m (b ∷ l) = run (follow m b) l

-- the meaning of a whole line
abbrev pub end_of : Mode → Line
end_of Opening = other
end_of Comment = comment
end_of Bracket = other
end_of Letter = other
end_of Zero = other
end_of (Digits n) = other
end_of (Closed n) = step n
end_of Other = other

pub run_other : (l : List ℕ) → run Other l ≡ Other
run_other [] = refl
run_other (b ∷ l) = run_other l

pub run-comment : (l : List ℕ) → run Comment l ≡ Comment
run-comment [] = refl
run-comment (b ∷ l) = run-comment l

-- Behind `(a`: digits that spell n, and the closing bracket

abbrev spells : List ℕ → ℕ → Line
spells l n = cond (same l (decimal n ++ (41 ∷ []))) (step (as_byte n)) other

spells-not : (l : List ℕ) (n : ℕ) → closes l ≡ false → other ≡ spells l n
spells-not l n e = rw (not_same l n e)

spells_other : (l : List ℕ) (n : ℕ) (m : List ℕ) → closes l ≡ false → end_of (run Other m) ≡ spells l n
spells_other l n m e = rw (run_other m) (spells-not l n e)

-- a bracket after digits
closed : (n : ℕ) (l : List ℕ) → end_of (run (Closed (as_byte n)) l) ≡ spells (decimal n ++ 41 ∷ l) (number_from n l)
closed n [] = rw (same_refl (decimal n ++ (41 ∷ [])))
closed n (c ∷ l) = spells_other (decimal n ++ 41 ∷ c ∷ l) (number_from n (c ∷ l)) l (closes_digits (decimal n) (41 ∷ c ∷ l) (decimal_digits n))

digits : (n : ℕ) → 1 ≤ n → (l : List ℕ) → end_of (run (Digits (as_byte n)) l) ≡ spells (decimal n ++ l) (number_from n l)
digits n h [] = spells-not (decimal n ++ []) n (closes_digits (decimal n) [] (decimal_digits n))
digits n h (b ∷ l) = go (eqb b 41) (is_digit b) refl refl (digits (10 * n + (b - 48)) (omega arith) l)
  where
    go : (e d : Bool) → eqb b 41 ≡ e → is_digit b ≡ d
        → end_of (run (Digits (as_byte (10 * n + (b - 48)))) l) ≡ spells (decimal (10 * n + (b - 48)) ++ l) (number_from (10 * n + (b - 48)) l)
        → end_of (run (cond e (Closed (as_byte n)) (cond d (Digits (as_byte (10 * as_byte n + (b - 48)))) Other)) l)
        ≡ spells (decimal n ++ b ∷ l) (number_from (cond d (10 * n + (b - 48)) n) l)
    go true true p q rest = absurd (not_both q (ap is_digit (eqb-true b 41 p)))
    go true false p q rest = rw (eqb-true b 41 p) (closed n l)
    go false true p q rest =
        let r = digit_range b q in
        let back : 48 + (b - 48) ≡ b = omega (arith, r) in
        let more : decimal (10 * n + (b - 48)) ++ l ≡ decimal n ++ b ∷ l =
        ap (λ (x : List ℕ). x ++ l) (one_more n (b - 48) h (omega (arith, r))) ∙ append_assoc (decimal n) ((48 + (b - 48)) ∷ []) l ∙ ap (λ (x : ℕ). decimal n ++ x ∷ l) back in
        ap (λ (x : ℕ). end_of (run (Digits x) l)) (as_byte_on n (b - 48)) ∙ rest ∙ ap (λ (x : List ℕ). spells x (number_from (10 * n + (b - 48)) l)) more
    go false false p q rest =
        spells_other (decimal n ++ b ∷ l) (number_from n l) l (closes_digits (decimal n) (b ∷ l) (decimal_digits n) ∙ rw (q, p))

-- a line that begins otherwise: no digit, or a leading zero
no_digit : (b : ℕ) (l : List ℕ) (n : ℕ) → is_digit b ≡ false → other ≡ spells (b ∷ l) n
no_digit b l n q = go (headed n)
  where
    go : Headed n → other ≡ spells (b ∷ l) n
    go d = rw (d.spelled, ne_eqb b (48 + d.first) (λ e. not_both (ap is_digit e ∙ digit_is d.first d.small) q))

leading_zero : (c : ℕ) (l : List ℕ) (n : ℕ) → eqb c 41 ≡ false → other ≡ spells (48 ∷ c ∷ l) n
unfolding decimal
leading_zero c l n p = go (headed n)
  where
    by_first : (d : Headed n) (e : Bool) → eqb d.first 0 ≡ e → other ≡ spells (48 ∷ c ∷ l) n
    by_first d true e = rw (d.leading (eqb-true d.first 0 e), p)
    by_first d false e = rw (d.spelled, ne_eqb 48 (48 + d.first) (λ x. eqb-false d.first 0 e (omega arith)))

    go : Headed n → other ≡ spells (48 ∷ c ∷ l) n
    go d = by_first d (eqb d.first 0) refl

zero_first : (l : List ℕ) → end_of (run Zero l) ≡ spells (48 ∷ l) (number_from 0 l)
unfolding decimal
zero_first [] = spells-not (48 ∷ []) 0 refl
zero_first (c ∷ l) = go (eqb c 41) refl
  where
    go : (e : Bool) → eqb c 41 ≡ e
        → end_of (run (cond e (Closed 0) Other) l) ≡ spells (48 ∷ c ∷ l) (number_from (cond (is_digit c) (10 * 0 + (c - 48)) 0) l)
    go true p = rw (eqb-true c 41 p) (closed 0 l)
    go false p = rw (run_other l) (leading_zero c l (number_from (cond (is_digit c) (10 * 0 + (c - 48)) 0) l) p)

letter : (l : List ℕ) → end_of (run Letter l) ≡ spells l (number_from 0 l)
letter [] = spells-not [] 0 refl
letter (b ∷ l) = go (eqb b 48) (is_digit b) refl refl
  where
    go : (e d : Bool) → eqb b 48 ≡ e → is_digit b ≡ d
        → end_of (run (cond e Zero (cond d (Digits (b - 48)) Other)) l) ≡ spells (b ∷ l) (number_from (cond d (10 * 0 + (b - 48)) 0) l)
    go true true p q = rw (eqb-true b 48 p) (zero_first l)
    go true false p q = absurd (not_both (ap is_digit (eqb-true b 48 p)) q)
    go false true p q =
        let r = digit_range b q in
        let apart : b ≡ 48 → ⊥ = eqb-false b 48 p in
        let above : 1 ≤ b - 48 = omega (arith, r, apart) in
        let small : b - 48 < 10 = omega (arith, r) in
        let back : 48 + (b - 48) ≡ b = omega (arith, r) in
        let none : b - 48 ≡ 10 * 0 + (b - 48) = omega arith in
        ap (λ (x : ℕ). end_of (run (Digits x) l)) (sym (rw (lt-ltb (b - 48) 255 (omega arith)))) ∙ digits (b - 48) above l
        ∙ (λ z. spells ((decimal_one (b - 48) small ∙ ap (λ (x : ℕ). x ∷ []) back) z ++ l) (number_from (none z) l))
    go false false p q = rw (run_other l) (no_digit b l (number_from 0 l) q)

-- From the start of the line

bracket : (l : List ℕ) → end_of (run Bracket l) ≡ step_or (40 ∷ l) (number_from 0 l)
unfolding step_line
bracket [] = refl
bracket (c ∷ l) = go (eqb c 97) refl
  where
    go : (e : Bool) → eqb c 97 ≡ e
        → end_of (run (cond e Letter Other) l) ≡ step_or (40 ∷ c ∷ l) (number_from (cond (is_digit c) (10 * 0 + (c - 48)) 0) l)
    go true p = rw (eqb-true c 97 p) (letter l)
    go false p = rw (run_other l, p)

pub line_read : (l : List ℕ) → end_of (run Opening l) ≡ line_of l
unfolding step_line
line_read [] = refl
line_read (b ∷ l) = go (eqb b SEMICOLON) (eqb b 40) refl
  where
    go : (e f : Bool) → eqb b 40 ≡ f
        → end_of (run (cond e Comment (cond f Bracket Other)) l)
        ≡ cond e comment (step_or (b ∷ l) (number_from (cond (is_digit b) (10 * 0 + (b - 48)) 0) l))
    go true f p = rw (run-comment l)
    go false true p = rw (eqb-true b 40 p) (bracket l)
    go false false p = rw (run_other l, p)

-- A line that is begun

begun_by : (b : Bool) (m n : Mode) → is_opening m ≡ false → is_opening n ≡ false → is_opening (cond b m n) ≡ false
begun_by true m n p q = p
begun_by false m n p q = q

pub follow_begun : (m : Mode) (b : ℕ) → is_opening (follow m b) ≡ false
follow_begun Opening b = begun_by (eqb b 59) Comment (cond (eqb b 40) Bracket Other) refl (begun_by (eqb b 40) Bracket Other refl refl)
follow_begun Comment b = refl
follow_begun Bracket b = begun_by (eqb b 97) Letter Other refl refl
follow_begun Letter b = begun_by (eqb b 48) Zero (cond (is_digit b) (Digits (b - 48)) Other) refl (begun_by (is_digit b) (Digits (b - 48)) Other refl refl)
follow_begun Zero b = begun_by (eqb b 41) (Closed 0) Other refl refl
follow_begun (Digits n) b =
    begun_by (eqb b 41) (Closed n) (cond (is_digit b) (Digits (as_byte (10 * n + (b - 48)))) Other) refl
    (begun_by (is_digit b) (Digits (as_byte (10 * n + (b - 48)))) Other refl refl)
follow_begun (Closed n) b = refl
follow_begun Other b = refl

pub run_begun : (m : Mode) (l : List ℕ) → is_opening m ≡ false → is_opening (run m l) ≡ false
run_begun m [] e = e
run_begun m (b ∷ l) e = run_begun (follow m b) l (follow_begun m b)
