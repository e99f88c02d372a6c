-- A text, byte by byte: what the code counts and writes is what the lines say.
use mathlib.Core.Path.{◌≡◌, refl, sym, ap}
use mathlib.Core.Bool.{Bool, true, false, cond}
use mathlib.Core.List.{List, [], ◌∷◌, ◌++◌}
use Prim.Native.Nat.{ℕ, suc, ◌+◌, ◌≤◌, ◌<◌}
use native.Mathlib.Nat.{add-zero}
use native.Mathlib.Numerals.{add-one}
use native.Mathlib.Omega.{arith}
use lib.Dec.{eqb}
use lib.ListN.{length, drop, get_or, drop_of_length-le}
use lib.Seq.{drop-cons}
use Rattle.text.specs.Area.{written}
use Rattle.text.proofs.Writing.{written-append}
use Rattle.plan_lines.specs.PlanText.{NEWLINE, Lines, rest, ended, before, lines_of, Read, plan, faulty, step_before, line_before, read_lines}
use Rattle.plan_lines.specs.Scan.{follow, next_line, advance, is_opening, Count, all, faulty_at, count, counted, begun, step_of, step_at, start, steps_from}
use Rattle.plan_lines.specs.declared.scan.Mode.{Mode}
use Rattle.plan_lines.specs.declared.scan.Mode.TheVariants.{Opening, Comment, Bracket, Letter, Zero, Digits, Closed, Other}
use Rattle.plan_lines.specs.declared.scan.Scan.{Scan}
use Rattle.plan_lines.proofs.Lines.{run, end_of, run_other, line_read, follow_begun, run_begun}

-- What is read from here on, in line i with so much of it after

abbrev unfinished : ℕ → Bool → Read
unfinished i true = plan []
unfinished i false = faulty i

abbrev pub read_from : Mode → ℕ → Lines → Read
read_from m i (rest l) = unfinished i (is_opening (run m l))
read_from m i (ended l ls) = line_before i (end_of (run m l)) (read_from Opening (suc i) ls)

-- from the start of a line: by the lines alone
pub from_lines : (i : ℕ) (ls : Lines) → read_from Opening i ls ≡ read_lines i ls
from_lines i (rest []) = refl
from_lines i (rest (b ∷ l)) = rw (run_begun (follow Opening b) l (follow_begun Opening b))
from_lines i (ended l ls) = λ z. line_before i (line_read l z) (from_lines (suc i) ls z)

from_other : (i : ℕ) (ls : Lines) → read_from Other i ls ≡ faulty i
from_other i (rest l) = rw (run_other l)
from_other i (ended l ls) = rw (run_other l)

-- one byte more
one_byte : (m : Mode) (i b : ℕ) (ls : Lines) → read_from m i (before b ls) ≡ read_from (follow m b) i ls
one_byte m i b (rest l) = refl
one_byte m i b (ended l ls) = refl

-- after byte b, by whether it is a newline
abbrev next_by : Scan → ℕ → Bool → Scan
next_by s b e = cond e (next_line s.mode s.line s.steps) (record { mode = follow s.mode b; line = s.line; steps = s.steps })

-- Counting

one_step : (k n : ℕ) (r : Read) → count k (step_before n r) ≡ count (suc k) r
one_step k n (plan p) = ap all (omega arith)
one_step k n (faulty i) = refl

abbrev pub count_from : Scan → Lines → Count
count_from s ls = count s.steps (read_from s.mode s.line ls)

pub line_end : (m : Mode) (i k : ℕ) (ls : Lines)
    → count k (line_before i (end_of m) (read_from Opening (suc i) ls)) ≡ count_from (next_line m i k) ls
line_end Opening i k ls = ap (count k) (sym (from_other i ls))
line_end Comment i k ls = refl
line_end Bracket i k ls = ap (count k) (sym (from_other i ls))
line_end Letter i k ls = ap (count k) (sym (from_other i ls))
line_end Zero i k ls = ap (count k) (sym (from_other i ls))
line_end (Digits n) i k ls = ap (count k) (sym (from_other i ls))
line_end (Closed n) i k ls = one_step k n (read_from Opening (suc i) ls)
line_end Other i k ls = ap (count k) (sym (from_other i ls))

pub count_on_lem : (s : Scan) (b : ℕ) (t : List ℕ) → count_from s (lines_of (b ∷ t)) ≡ count_from (advance s b) (lines_of t)
count_on_lem s b t = go (eqb b NEWLINE)
  where
    go : (e : Bool) → count_from s (cond e (ended [] (lines_of t)) (before b (lines_of t)))
        ≡ count_from (next_by s b e) (lines_of t)
    go true = line_end s.mode s.line s.steps (lines_of t)
    go false = ap (count s.steps) (one_byte s.mode s.line b (lines_of t))

pub count_start : (t : List ℕ) → count_from start (lines_of t) ≡ count 0 (read_lines 0 (lines_of t))
count_start t = ap (count 0) (from_lines 0 (lines_of t))

pub count_end : (s : Scan) → count_from s (lines_of []) ≡ counted s
count_end s = go (is_opening s.mode)
  where
    go : (e : Bool) → count s.steps (unfinished s.line e) ≡ cond e (all s.steps) (faulty_at s.line)
    go true = ap all (add-zero s.steps)
    go false = refl

-- Places: lines and steps are no more than the bytes

begun_one : (m : Mode) → begun m ≤ 1
begun_one m = go (is_opening m)
  where
    go : (e : Bool) → cond e 0 1 ≤ 1
    go true = omega arith
    go false = omega arith

line_places : (m : Mode) (i k : ℕ) → ((next_line m i k).line + begun (next_line m i k).mode ≤ suc i) × ((next_line m i k).steps ≤ suc k)
line_places Opening i k = (omega arith, omega arith)
line_places Comment i k = (omega arith, omega arith)
line_places Bracket i k = (omega arith, omega arith)
line_places Letter i k = (omega arith, omega arith)
line_places Zero i k = (omega arith, omega arith)
line_places (Digits n) i k = (omega arith, omega arith)
line_places (Closed n) i k = (omega arith, omega arith)
line_places Other i k = (omega arith, omega arith)

pub places_on : (s : Scan) (b : ℕ) → ((advance s b).line + begun (advance s b).mode ≤ suc s.line) × ((advance s b).steps ≤ suc s.steps)
places_on s b = go (eqb b NEWLINE)
  where
    go : (e : Bool) → ((next_by s b e).line + begun (next_by s b e).mode ≤ suc s.line) × ((next_by s b e).steps ≤ suc s.steps)
    go true = line_places s.mode s.line s.steps
    go false = (omega (arith, begun_one (follow s.mode b)), omega arith)

-- The steps

pub steps_on : (s : Scan) (b : ℕ) → (advance s b).steps ≡ s.steps + length (step_at s.mode b)
steps_on s b = go (eqb b NEWLINE)
  where
    by_mode : (m : Mode) (i k : ℕ) → (next_line m i k).steps ≡ k + length (step_of m)
    by_mode Opening i k = omega arith
    by_mode Comment i k = omega arith
    by_mode Bracket i k = omega arith
    by_mode Letter i k = omega arith
    by_mode Zero i k = omega arith
    by_mode (Digits n) i k = omega arith
    by_mode (Closed n) i k = omega arith
    by_mode Other i k = omega arith

    go : (e : Bool) → (next_by s b e).steps
        ≡ s.steps + length (cond e (step_of s.mode) [])
    go true = by_mode s.mode s.line s.steps
    go false = omega arith

-- where a plan is read, its steps are those that the code writes
abbrev StepsRead : Read → List ℕ → Type 0
StepsRead (plan p) q = q ≡ p
StepsRead (faulty i) q = Unit

step_before_lem : (n : ℕ) (r : Read) (q : List ℕ) → StepsRead r q → StepsRead (step_before n r) (n ∷ q)
step_before_lem n (plan p) q e = ap (λ (l : List ℕ). n ∷ l) e
step_before_lem n (faulty i) q e = tt

line_steps : (m : Mode) (i k : ℕ) (ls : Lines) (q : List ℕ) → StepsRead (read_from (next_line m i k).mode (next_line m i k).line ls) q
    → StepsRead (line_before i (end_of m) (read_from Opening (suc i) ls)) (step_of m ++ q)
line_steps Opening i k ls q h = tt
line_steps Comment i k ls q h = h
line_steps Bracket i k ls q h = tt
line_steps Letter i k ls q h = tt
line_steps Zero i k ls q h = tt
line_steps (Digits n) i k ls q h = tt
line_steps (Closed n) i k ls q h = step_before_lem n (read_from Opening (suc i) ls) q h
line_steps Other i k ls q h = tt

steps_from_lem : (s : Scan) (t : List ℕ) → StepsRead (read_from s.mode s.line (lines_of t)) (steps_from s t)
unfolding steps_from
steps_from_lem s [] = go (is_opening s.mode)
  where
    go : (e : Bool) → StepsRead (unfinished s.line e) []
    go true = refl
    go false = tt
steps_from_lem s (b ∷ t) = go (eqb b NEWLINE) (steps_from_lem (advance s b) t)
  where
    go : (e : Bool) → StepsRead (read_from (next_by s b e).mode (next_by s b e).line (lines_of t)) (steps_from (next_by s b e) t)
        → StepsRead (read_from s.mode s.line (cond e (ended [] (lines_of t)) (before b (lines_of t)))) (cond e (step_of s.mode) [] ++ steps_from (next_by s b e) t)
    go true h = line_steps s.mode s.line s.steps (lines_of t) (steps_from (next_by s b true) t) h
    go false h = rw (one_byte s.mode s.line b (lines_of t)) h

pub steps_read : (t p : List ℕ) → read_lines 0 (lines_of t) ≡ plan p → steps_from start t ≡ p
steps_read t p e = rw (from_lines 0 (lines_of t), e) at (steps_from_lem start t)

-- In a loop

-- lines and steps are no more than the i bytes passed
pub record Passed (s : Scan) (i : ℕ) : Type 0 where
  pub lines : s.line + begun s.mode ≤ i
  pub steps : s.steps ≤ i

pub passed_start : Passed start 0
passed_start = record { lines = omega arith; steps = omega arith }

pub passed_on : (s : Scan) (b i : ℕ) → Passed s i → Passed (advance s b) (i + 1)
passed_on s b i p = record { lines = omega (arith, (places_on s b).0, p.lines); steps = omega (arith, (places_on s b).1, p.steps) }

module _ (s : Scan) (t : List ℕ) (i : ℕ) where
  pub count_at : i < length t → count_from (advance s (get_or t i 0)) (lines_of (drop (i + 1) t)) ≡ count_from s (lines_of (drop i t))
  count_at h = rw (drop-cons t i 0 h, add-one i) (sym (count_on_lem s (get_or t i 0) (drop (suc i) t)))

  pub count_after : length t ≤ i → counted s ≡ count_from s (lines_of (drop i t))
  count_after h = rw (drop_of_length-le t h) (sym (count_end s))

  pub write_at : (out : List ℕ) → i < length t
      → written (steps_from (advance s (get_or t i 0)) (drop (i + 1) t)) (advance s (get_or t i 0)).steps (written (step_at s.mode (get_or t i 0)) s.steps out)
      ≡ written (steps_from s (drop i t)) s.steps out
  unfolding steps_from
  write_at out h =
      rw (drop-cons t i 0 h, add-one i, steps_on s (get_or t i 0))
      (sym (written-append (step_at s.mode (get_or t i 0)) (steps_from (advance s (get_or t i 0)) (drop (suc i) t)) out s.steps))

  pub write_after : (out : List ℕ) → length t ≤ i → out ≡ written (steps_from s (drop i t)) s.steps out
  unfolding steps_from written
  write_after out h = rw (drop_of_length-le t h)
