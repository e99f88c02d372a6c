-- The line of a step at once: found by its bytes, and passed as byte by byte.
use mathlib.Core.Path.{◌≡◌, refl, sym, ap, ◌∙◌}
use mathlib.Core.Bool.{true, true≢false}
use mathlib.Core.List.{List, [], ◌∷◌, ◌++◌, append_assoc}
use Prim.Native.Nat.{ℕ, zero, suc, ◌+◌, ◌*◌, ◌-◌, ◌≤◌, ◌<◌}
use native.Mathlib.Nat.{zero-add}
use native.Mathlib.Numerals.{add-one}
use native.Mathlib.Omega.{arith}
use lib.Dec.{T}
use lib.ListN.{length, drop, get_or, length-append, length-drop}
use lib.Seq.{drop-cons, drop-nil}
use Rattle.lists.proofs.Tests.{as_false, tests}
use Rattle.text.specs.Ascii.{ascii}
use Rattle.text.specs.Text.{decimal, is_digit}
use Rattle.text.specs.Area.{written}
use Rattle.text.proofs.Decimal.{decimal_one}
use Rattle.text.proofs.Digits.{digit_range, one_more}
use Rattle.text.proofs.Writing.{written-append}
use Rattle.plan_lines.specs.PlanText.{NEWLINE, step_line, lines_of, step}
use Rattle.plan_lines.specs.Scan.{follow, next_line, is_opening, step_of, at_line, steps_from, Numbered, Closes, Begins}
use Rattle.plan_lines.specs.declared.scan.Mode.{Mode}
use Rattle.plan_lines.specs.declared.scan.Mode.TheVariants.{Opening, Comment, Bracket, Letter, Zero, Digits, Closed, Other}
use Rattle.plan_lines.specs.declared.scan.Scan.{Scan}
use Rattle.plan_lines.proofs.Lines.{run, end_of, line_read}
use Rattle.plan_lines.proofs.Splitting.{is_newline, one_line, line_ended}
use Rattle.plan_lines.proofs.Returned.{one_line_lem, line_back, byte_kept}
use Rattle.plan_lines.proofs.Scanning.{count_from, line_end, Passed}

-- Its bytes

pub opened : (t : List ℕ) → 3 ≤ length t → get_or t 0 0 ≡ 40 → get_or t 1 0 ≡ 97 → is_digit (get_or t 2 0) ≡ true → Numbered t 3 (get_or t 2 0 - 48)
opened [] h p q e = absurd (omega arith)
opened (a ∷ []) h p q e = absurd (omega arith)
opened (a ∷ b ∷ []) h p q e = absurd (omega arith)
opened (a ∷ b ∷ d ∷ r) h p q e =
    let s = digit_range d e in
    let back : 48 + (d - 48) ≡ d = omega (arith, s) in
    let one : decimal (d - 48) ≡ d ∷ [] = decimal_one (d - 48) (omega (arith, s)) ∙ ap (λ (x : ℕ). x ∷ []) back in
    record { is = λ z. p z ∷ q z ∷ (sym one z ++ r) }

module _ (t : List ℕ) (k n : ℕ) where
  pub digit_more : 1 ≤ n → k < length t → is_digit (get_or t k 0) ≡ true → Numbered t k n → Numbered t (k + 1) (10 * n + (get_or t k 0 - 48))
  digit_more h l e v =
      let d : ℕ = get_or t k 0 in
      let s = digit_range d e in
      let back : 48 + (d - 48) ≡ d = omega (arith, s) in
      let more : decimal (10 * n + (d - 48)) ≡ decimal n ++ (d ∷ []) = one_more n (d - 48) h (omega (arith, s)) ∙ ap (λ (x : ℕ). decimal n ++ (x ∷ [])) back in
      let on : drop k t ≡ d ∷ drop (k + 1) t = drop-cons t k 0 l ∙ ap (λ (j : ℕ). d ∷ drop j t) (sym (add-one k)) in
      record {
        is = v.is ∙ ap (λ (x : List ℕ). ascii "(a" ++ (decimal n ++ x)) on
            ∙ ap (λ (x : List ℕ). ascii "(a" ++ x) (sym (append_assoc (decimal n) (d ∷ []) (drop (k + 1) t)))
            ∙ ap (λ (x : List ℕ). ascii "(a" ++ (x ++ drop (k + 1) t)) (sym more);
      }

  pub line_closed : (s z : ℕ) → Numbered t k n → Closes t k n s z → Begins t s z
  unfolding step_line
  line_closed s z v c =
      record {
        is = v.is ∙ ap (λ (x : List ℕ). ascii "(a" ++ (decimal n ++ x)) c.ends
            ∙ ap (λ (x : List ℕ). ascii "(a" ++ x) (sym (append_assoc (decimal n) (41 ∷ []) (10 ∷ drop z t)))
            ∙ ap (λ (m : ℕ). step_line m ++ (NEWLINE ∷ drop z t)) (sym c.same);
        inside = c.inside;
      }

pub not_empty : (t : List ℕ) (n z : ℕ) → Begins t n z → 0 < z
not_empty t n z b =
    omega (arith, ap length b.is, length-append (step_line n) (NEWLINE ∷ drop z t), length-drop z t, b.inside)

-- What comes after it

opening : (m : Mode) → is_opening m ≡ true → m ≡ Opening
opening Opening e = refl
opening Comment e = absurd (true≢false (sym e))
opening Bracket e = absurd (true≢false (sym e))
opening Letter e = absurd (true≢false (sym e))
opening Zero e = absurd (true≢false (sym e))
opening (Digits n) e = absurd (true≢false (sym e))
opening (Closed n) e = absurd (true≢false (sym e))
opening Other e = absurd (true≢false (sym e))

closed_by_lem : (m : Mode) (n : ℕ) → end_of m ≡ step n → m ≡ Closed n
closed_by_lem Opening n e = cc
closed_by_lem Comment n e = cc
closed_by_lem Bracket n e = cc
closed_by_lem Letter n e = cc
closed_by_lem Zero n e = cc
closed_by_lem (Digits k) n e = cc
closed_by_lem (Closed k) n e = cc
closed_by_lem Other n e = cc

step_closes : (n : ℕ) → n < 256 → run Opening (step_line n) ≡ Closed n
step_closes n h = closed_by_lem (run Opening (step_line n)) n (line_read (step_line n) ∙ line_back n ∙ ap step (byte_kept n h))

steps_line : (l : List ℕ) (s : Scan) (t : List ℕ) → T (one_line l)
    → steps_from s (l ++ NEWLINE ∷ t) ≡ step_of (run s.mode l) ++ steps_from (next_line (run s.mode l) s.line s.steps) t
unfolding steps_from
steps_line [] s t h = refl
steps_line (b ∷ l) s t h =
    rw (as_false (is_newline b) (search tests))
    (steps_line l (record { mode = follow s.mode b; line = s.line; steps = s.steps }) t (search tests))

-- between lines, before the line of step n
module _ (s : Scan) (n : ℕ) (t : List ℕ) (o : s.mode ≡ Opening) (h : n < 256) where
  count_line : count_from (at_line (suc s.line) (suc s.steps)) (lines_of t) ≡ count_from s (lines_of (step_line n ++ NEWLINE ∷ t))
  count_line = rw (line_ended (step_line n) t (one_line_lem n), o, step_closes n h) (sym (line_end (Closed n) s.line s.steps (lines_of t)))

  write_line : (out : List ℕ) → written (steps_from (at_line (suc s.line) (suc s.steps)) t) (s.steps + 1) (written (n ∷ []) s.steps out)
      ≡ written (steps_from s (step_line n ++ NEWLINE ∷ t)) s.steps out
  write_line out =
      rw (steps_line (step_line n) s t (one_line_lem n), o, step_closes n h)
      (sym (written-append (n ∷ []) (steps_from (at_line (suc s.line) (suc s.steps)) t) out s.steps))

-- In a loop

drop_twice : (i z : ℕ) (t : List ℕ) → drop z (drop i t) ≡ drop (i + z) t
drop_twice zero z t = ap (λ (j : ℕ). drop j t) (sym (zero-add z))
drop_twice (suc i) z [] = drop-nil z ∙ sym (drop-nil (suc i + z))
drop_twice (suc i) z (x ∷ t) = let e : suc (i + z) ≡ suc i + z = omega arith in drop_twice i z t ∙ ap (λ (j : ℕ). drop j (x ∷ t)) e

module _ (s : Scan) (t : List ℕ) (i n z : ℕ) (o : is_opening s.mode ≡ true) (b : Begins (drop i t) n z) (h : n < 256) where
  after : drop z (drop i t) ≡ drop (i + z) t
  after = drop_twice i z t

  pub count_past : count_from (at_line (s.line + 1) (s.steps + 1)) (lines_of (drop (i + z) t)) ≡ count_from s (lines_of (drop i t))
  count_past =
      rw (add-one s.line, add-one s.steps, ← after)
      (count_line s n (drop z (drop i t)) (opening s.mode o) h ∙ ap (λ (l : List ℕ). count_from s (lines_of l)) (sym b.is))

  pub write_past : (out : List ℕ) → written (steps_from (at_line (s.line + 1) (s.steps + 1)) (drop (i + z) t)) (s.steps + 1) (written (n ∷ []) s.steps out)
      ≡ written (steps_from s (drop i t)) s.steps out
  write_past out =
      ap (λ (l : List ℕ). written (steps_from (at_line (s.line + 1) (s.steps + 1)) l) (s.steps + 1) (written (n ∷ []) s.steps out)) (sym after)
      ∙ (λ y. written (steps_from (at_line (add-one s.line y) (add-one s.steps y)) (drop z (drop i t))) (s.steps + 1) (written (n ∷ []) s.steps out))
      ∙ write_line s n (drop z (drop i t)) (opening s.mode o) h out ∙ ap (λ (l : List ℕ). written (steps_from s l) s.steps out) (sym b.is)

pub passed_past : (s : Scan) (i z : ℕ) → 0 < z → Passed s i → Passed (at_line (s.line + 1) (s.steps + 1)) (i + z)
passed_past s i z h p = record { lines = omega (arith, p.lines); steps = omega (arith, p.steps) }
