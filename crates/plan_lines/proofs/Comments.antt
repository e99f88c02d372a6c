-- Reading ignores comments and nothing else.
use mathlib.Core.Path.{◌≡◌, refl, sym, ap, ◌∙◌}
use mathlib.Core.Logic.{◌↔◌}
use mathlib.Core.Bool.{Bool, true, false, cond, ◌&&◌, true≢false}
use mathlib.Core.List.{List, [], ◌∷◌, ◌++◌, map}
use Prim.Native.Nat.{ℕ, suc, ◌≤◌}
use native.Mathlib.Omega.{arith}
use lib.Dec.{T, eqb, leb}
use lib.ListN.{length, length-append}
use borrow.Author.Tests.{leb-true}
use Rattle.lists.proofs.Tests.{and_left, and_right, and_both}
use Rattle.text.specs.Text.{number_from}
use Rattle.plan_lines.specs.PlanText.{NEWLINE, SEMICOLON, step_line, text_of, Lines, rest, ended, lines_of, same, as_byte, Line, comment, step, other, line_of, Read, plan, faulty, step_before, line_before, read_lines, read_plan}
use Rattle.plan_lines.proofs.Numerals.{same_eq}
use Rattle.plan_lines.proofs.Splitting.{bytes_of, whole, one_line, are_split, all_split, split_again, by_lines}
use Rattle.plan_lines.proofs.Returned.{read_back}

-- The text without its comments

abbrev pub is_comment : List ℕ → Bool
is_comment [] = false
is_comment (b ∷ l) = eqb b SEMICOLON

abbrev pub without_comments : Lines → Lines
without_comments (rest l) = rest l
without_comments (ended l ls) = cond (is_comment l) (without_comments ls) (ended l (without_comments ls))

abbrev pub stripped : List ℕ → List ℕ
stripped t = bytes_of (without_comments (lines_of t))

still_split : (ls : Lines) → T (are_split ls) → T (are_split (without_comments ls))
still_split (rest l) h = h
still_split (ended l ls) h =
    let t : T (one_line l && are_split ls) = h in
    go (is_comment l) (and_left (one_line l) (are_split ls) t) (still_split ls (and_right (one_line l) (are_split ls) t))
  where
    go : (e : Bool) → T (one_line l) → T (are_split (without_comments ls)) → T (are_split (cond e (without_comments ls) (ended l (without_comments ls))))
    go true a b = b
    go false a b = and_both (one_line l) (are_split (without_comments ls)) a b

lines_stripped : (t : List ℕ) → lines_of (stripped t) ≡ without_comments (lines_of t)
lines_stripped t = split_again (without_comments (lines_of t)) (still_split (lines_of t) (all_split t))

no_more_bytes : (ls : Lines) → length (bytes_of (without_comments ls)) ≤ length (bytes_of ls)
no_more_bytes (rest l) = omega arith
no_more_bytes (ended l ls) = go (is_comment l) (no_more_bytes ls)
  where
    go : (e : Bool) → length (bytes_of (without_comments ls)) ≤ length (bytes_of ls)
        → length (bytes_of (cond e (without_comments ls) (ended l (without_comments ls)))) ≤ length (l ++ NEWLINE ∷ bytes_of ls)
    go true h = rw (length-append l (NEWLINE ∷ bytes_of ls)) (omega arith)
    go false h = rw (length-append l (NEWLINE ∷ bytes_of ls), length-append l (NEWLINE ∷ bytes_of (without_comments ls))) (omega arith)

no_longer : (t : List ℕ) → length (stripped t) ≤ length t
no_longer t = rw (whole t) at (no_more_bytes (lines_of t))

-- The plan is that of the text without comments

-- a text that is refused, whatever its line
abbrev pub unplaced : Read → Read
unplaced (plan p) = plan p
unplaced (faulty i) = faulty 0

unplaced_step : (n : ℕ) (r : Read) → unplaced (step_before n r) ≡ step_before n (unplaced r)
unplaced_step n (plan p) = refl
unplaced_step n (faulty i) = refl

unplaced_line : (i j : ℕ) (x : Line) (r s : Read) → unplaced r ≡ unplaced s → unplaced (line_before i x r) ≡ unplaced (line_before j x s)
unplaced_line i j comment r s e = e
unplaced_line i j (step n) r s e = unplaced_step n r ∙ ap (step_before n) e ∙ sym (unplaced_step n s)
unplaced_line i j other r s e = refl

comment_line : (l : List ℕ) → is_comment l ≡ true → line_of l ≡ comment
comment_line [] e = absurd (true≢false (sym e))
comment_line (b ∷ l) e = rw e

ignored_lines : (i j : ℕ) (ls : Lines) → unplaced (read_lines i ls) ≡ unplaced (read_lines j (without_comments ls))
ignored_lines i j (rest []) = refl
ignored_lines i j (rest (b ∷ l)) = refl
ignored_lines i j (ended l ls) = go (is_comment l) refl (ignored_lines (suc i) j ls) (ignored_lines (suc i) (suc j) ls)
  where
    go : (e : Bool) → is_comment l ≡ e → unplaced (read_lines (suc i) ls) ≡ unplaced (read_lines j (without_comments ls))
        → unplaced (read_lines (suc i) ls) ≡ unplaced (read_lines (suc j) (without_comments ls))
        → unplaced (line_before i (line_of l) (read_lines (suc i) ls)) ≡ unplaced (read_lines j (cond e (without_comments ls) (ended l (without_comments ls))))
    go true e h k = ap (λ (x : Line). unplaced (line_before i x (read_lines (suc i) ls))) (comment_line l e) ∙ h
    go false e h k = unplaced_line i j (line_of l) (read_lines (suc i) ls) (read_lines (suc j) (without_comments ls)) k

-- the same plan, or both refused
pub ignored : (t : List ℕ) → length t ≤ 65536 → unplaced (read_plan t) ≡ unplaced (read_plan (stripped t))
ignored t h =
    let short : length (stripped t) ≤ 65536 = omega (arith, no_longer t) in
    ap unplaced (by_lines t h) ∙ ignored_lines 0 0 (lines_of t)
    ∙ sym (ap unplaced (by_lines (stripped t) short ∙ ap (read_lines 0) (lines_stripped t)))

-- What is left spells the plan

-- the text of some numbers, which are read as p
pub record Spells (bytes p : List ℕ) : Type 0 where
  pub numbers : List ℕ
  pub spelled : bytes ≡ text_of numbers
  pub as_read : map as_byte numbers ≡ p

-- a step's line before a text that spells the rest
one_step : (n : ℕ) (l bs p : List ℕ) (r : Read) → l ≡ step_line n → step_before (as_byte n) r ≡ plan p
    → ((q : List ℕ) → r ≡ plan q → Spells bs q) → Spells (l ++ NEWLINE ∷ bs) p
unfolding text_of
one_step n l bs p (faulty i) e h more = absurd (true≢false (cc))
one_step n l bs p (plan q) e h more = build (more q refl)
  where
    build : Spells bs q → Spells (l ++ NEWLINE ∷ bs) p
    build s =
        record {
          numbers = n ∷ s.numbers;
          spelled = λ z. e z ++ NEWLINE ∷ s.spelled z;
          as_read = cc s.as_read;
        }

spelled_lines : (i : ℕ) (ls : Lines) (p : List ℕ) → read_lines i ls ≡ plan p → Spells (bytes_of (without_comments ls)) p
unfolding text_of
spelled_lines i (rest []) p h = record { numbers = []; spelled = refl; as_read = cc }
spelled_lines i (rest (b ∷ l)) p h = absurd (true≢false (cc))
spelled_lines i (ended [] ls) p h = absurd (true≢false (cc))
spelled_lines i (ended (b ∷ l) ls) p h =
    go (eqb b SEMICOLON) (same (b ∷ l) (step_line (number_from 0 (b ∷ l)))) refl h (spelled_lines (suc i) ls)
  where
    go : (e f : Bool) → same (b ∷ l) (step_line (number_from 0 (b ∷ l))) ≡ f
        → line_before i (cond e comment (cond f (step (as_byte (number_from 0 (b ∷ l)))) other)) (read_lines (suc i) ls) ≡ plan p
        → ((q : List ℕ) → read_lines (suc i) ls ≡ plan q → Spells (bytes_of (without_comments ls)) q)
        → Spells (bytes_of (cond e (without_comments ls) (ended (b ∷ l) (without_comments ls)))) p
    go true f s h more = more p h
    go false true s h more =
        one_step (number_from 0 (b ∷ l)) (b ∷ l) (bytes_of (without_comments ls)) p (read_lines (suc i) ls) (same_eq (b ∷ l) (step_line (number_from 0 (b ∷ l))) s) h more
    go false false s h more = absurd (true≢false (cc))

short_enough : (t p : List ℕ) → read_plan t ≡ plan p → length t ≤ 65536
unfolding read_plan
short_enough t p h = go (leb (length t) 65536) refl h
  where
    go : (e : Bool) → leb (length t) 65536 ≡ e → cond e (read_lines 0 (lines_of t)) (faulty 0) ≡ plan p → length t ≤ 65536
    go true e h = leb-true (length t) 65536 e
    go false e h = absurd (true≢false (cc))

-- without its comments a text that is read as p spells p, byte by byte
pub nothing_else : (t p : List ℕ) → read_plan t ≡ plan p → Spells (stripped t) p
nothing_else t p h = spelled_lines 0 (lines_of t) p (sym (by_lines t (short_enough t p h)) ∙ h)

-- Exactly the texts that spell a plan are read as it

placed : (r : Read) (p : List ℕ) → unplaced r ≡ plan p → r ≡ plan p
placed (plan q) p h = h
placed (faulty i) p h = cc

spelled_read : (t p : List ℕ) → length t ≤ 65536 → Spells (stripped t) p → read_plan t ≡ plan p
spelled_read t p h s =
    let short : length (text_of s.numbers) ≤ 65536 = omega (arith, no_longer t, ap length s.spelled) in
    let back : read_plan (stripped t) ≡ plan p = ap read_plan s.spelled ∙ read_back s.numbers short ∙ ap plan s.as_read in
    placed (read_plan t) p (ignored t h ∙ ap unplaced back)

pub exactly : (t p : List ℕ) → (read_plan t ≡ plan p) ↔ ((length t ≤ 65536) × Spells (stripped t) p)
exactly t p = (λ h. (short_enough t p h, nothing_else t p h), λ q. spelled_read t p q.0 q.1)
