-- How a condition is read, row by row.
use Rattle.std.specs.Prelude.{Bool, true, false, not, cond, ◌&&◌, ◌≡◌, List, ℕ, suc, ◌+◌, ◌-◌, ◌<◌, leb, eqb, length, get_or}
use Rattle.std.specs.Bool.{beq}
use Rattle.task.specs.Marks.{CLAUSE, HOLDS, LACKS}
use Rattle.meaning.specs.Task.{Condition}
use Rattle.task.specs.TaskRows.{Row}
use Rattle.meaning.specs.Meaning.{State as Facts, is_true}
use Rattle.meaning.specs.Literals.{looked_at}
use Rattle.task.specs.Rows.{value_at, run_at}
use Rattle.reading.specs.declared.conditions.Evaluated.{Evaluated}

-- CLAUSE, HOLDS and LACKS stand in a condition
abbrev pub in_condition : ℕ → Bool
in_condition m = leb CLAUSE m && leb m LACKS

abbrev pub literal : Facts → ℕ → ℕ → Bool
literal s m v = beq (s v) (eqb m HOLDS)

-- a condition as it is read: whether every clause before the present one is true, whether the present one is, and how many
-- literals were looked at
pub record Reading : Type 0 where
  pub earlier : Bool
  pub present : Bool
  pub looked : ℕ

abbrev pub reading : Bool → Bool → ℕ → Reading
reading e p n = record { earlier = e; present = p; looked = n }

-- no clause has come yet
abbrev pub begin : Reading
begin = reading true true 0

-- CLAUSE closes the clause before it; a literal is looked at where every clause before is true and its own is not yet
abbrev pub read_row : Facts → Reading → Row → Reading
read_row s w x =
    cond (eqb x.mark CLAUSE) (reading (w.earlier && w.present) false w.looked)
    (cond (w.earlier && not w.present) (reading true (literal s x.mark x.value) (suc w.looked)) w)

abbrev pub finish : Reading → ℕ → Evaluated
finish w i = record { holds = w.earlier && w.present; looked = w.looked; next = i }

-- what reading a condition gives: its value, the literals looked at, and the row after it
abbrev pub read_as : Facts → Condition → ℕ → Evaluated
read_as s c j = record { holds = is_true s c; looked = looked_at s c; next = j }

-- the condition that stands from row i on
abbrev pub evaluate_at : Facts → Reading → List ℕ → List ℕ → ℕ → Evaluated
evaluate_at s = run_at (read_row s) in_condition finish

-- the first row from row i on that is not of a condition
abbrev pub end_at : List ℕ → List ℕ → ℕ → ℕ
end_at = run_at (λ (w : Unit {0}) (x : Row). w) in_condition (λ (w : Unit {0}) (i : ℕ). i) tt

-- a false literal lacks what holds, or holds what does not
abbrev pub false_mark : Facts → ℕ → ℕ
false_mark s v = cond (s v) LACKS HOLDS

-- the rows from `at` up to row r are false literals, and row r is none: an open clause has looked at so many more
pub record PastFalse (s : Facts) (ms vs : List ℕ) (at r : ℕ) : Type 0 where
  pub looks : (n : ℕ) → evaluate_at s (reading true false n) ms vs at ≡ evaluate_at s (reading true false (n + (r - at))) ms vs r
  pub stops : r < length ms → get_or ms r 0 ≡ false_mark s (value_at vs r) → ⊥
