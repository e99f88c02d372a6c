-- The same text from the rows of a task.
use Rattle.std.specs.Prelude.{Bool, cond, List, [], ◌∷◌, ◌++◌, ℕ}
use Rattle.task.specs.TaskRows.{Row}
use Rattle.task.specs.File.{opens_hard, soft_mark, is_preference, kind_of}
use Rattle.task.specs.Check.{count}
use Rattle.meaning.specs.Verdict.{Verdict}
use Rattle.plan.specs.Judged.{Judged}
use Rattle.report_lines.specs.Lines.{preference_line}
use Rattle.report.specs.Report.{verdict_text, text_with}

-- a row that opens preference k has a line, any other row has none; the steps have no place in it
unfoldable pub row_line : (ℕ → Bool) → ℕ → Row → List ℕ
row_line met k x = cond (is_preference x) (preference_line k (opens_hard x.mark) (kind_of (soft_mark x.mark) 0) x.value (met k)) []

-- the lines of rows before which k preferences stand
unfoldable pub row_lines : (ℕ → Bool) → ℕ → List Row → List ℕ
row_lines met k [] = []
row_lines met k (x ∷ xs) = row_line met k x ++ row_lines met (count (is_preference x) k) xs

abbrev pub verdict_of_rows : List Row → ℕ → Verdict → List ℕ
verdict_of_rows xs = verdict_text (λ (met : ℕ → Bool). row_lines met 0 xs)

abbrev pub report_of_rows : List Row → ℕ → Judged → List ℕ
report_of_rows xs = text_with (λ (met : ℕ → Bool). row_lines met 0 xs)
