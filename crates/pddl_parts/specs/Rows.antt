-- What the code writes of rows, as it reads them.
use Rattle.std.specs.Prelude.{Bool, cond, ◌&&◌, ◌||◌, List, [], ◌++◌, ℕ, ltb, length, get_or}
use Rattle.task.specs.Marks.{LACKS, DELETE}
use Rattle.task.specs.TaskRows.{Row}
use Rattle.task.specs.File.{has_mark}
use Rattle.task.specs.Rows.{between, run_at}
use Rattle.text.specs.Ascii.{ascii}
use Rattle.pddl_parts.specs.Pddl.{fact_text, not_text}

-- a row that names a fact: LACKS and DELETE have `not`
abbrev pub row_text : Row → List ℕ
row_text x = cond (has_mark LACKS x || has_mark DELETE x) (not_text x.value) (fact_text x.value)

-- row i is there, and has a mark between the two
abbrev pub mark_at : ℕ → ℕ → List ℕ → ℕ → Bool
mark_at least most ms i = ltb i (length ms) && between least most (get_or ms i 0)

-- the text of rows, and the row after them
pub record Listed : Type 0 where
  pub text : List ℕ
  pub next : ℕ

-- one row more, after a space
abbrev pub listed : List ℕ → Row → List ℕ
listed w x = w ++ (ascii " " ++ row_text x)

abbrev pub ended_at : List ℕ → ℕ → Listed
ended_at w i = record { text = w; next = i }

-- the rows from row i on whose marks are between the two
abbrev pub list_at : ℕ → ℕ → List ℕ → List ℕ → ℕ → Listed
list_at least most = run_at listed (between least most) ended_at []
