-- Texts for the belt: what the definitions give, and what they should.
use mathlib.Core.Path.{◌≡◌, refl}
use mathlib.Core.List.{List, [], ◌∷◌, map}
use Prim.Native.Nat.{ℕ, ◌+◌}
use Prim.Native.String.{String}
use Rattle.task.specs.Marks.{ACTION, EFFECT, CLAUSE, HOLDS, LACKS, ADD, DELETE, GOAL, START, ALWAYS, SOMETIME, HARD}
use Rattle.task.specs.TaskRows.{row}
use Rattle.task.specs.File.{file_of_rows, task_of, rows}
use Rattle.task.specs.Check.{check, check_rows}
use Rattle.meaning.specs.Verdict.{verdict, stopped}
use Rattle.task.proofs.Belt.{belt}
use Rattle.plan.specs.Judged.{given, judged}
use Rattle.text.specs.Ascii.{ascii}
use Rattle.text.specs.Text.{decimal}
use Rattle.outcome.specs.Outcome.{written, refused}
use Rattle.report_lines.specs.Lines.{solved_line, preference_line, amounts_line, stopped_line, rule_missed_line}
use Rattle.report.specs.Report.{report_of, report_on, report_outcome}
use Rattle.report.specs.Rows.{row_line, row_lines, report_of_rows}

pub record Example : Type 0 where
  pub given : List ℕ
  pub said : String

abbrev example : List ℕ → String → Example
example g s = record { given = g; said = s }

-- the belt with other marks and weights of its two preferences
abbrev belt_with : ℕ → ℕ → ℕ → ℕ → List ℕ
belt_with m w n v =
    file_of_rows 2 2 2
    (row START 1 ∷ row GOAL 0 ∷ row CLAUSE 0 ∷ row LACKS 1
    ∷ row ACTION 3 ∷ row EFFECT 0 ∷ row ADD 0 ∷ row DELETE 1
    ∷ row ACTION 1 ∷ row EFFECT 0 ∷ row ADD 1 ∷ row DELETE 0
    ∷ row m w ∷ row CLAUSE 0 ∷ row LACKS 1
    ∷ row n v ∷ row CLAUSE 0 ∷ row HOLDS 0 ∷ [])

abbrev examples : List Example
examples =
    example (report_on belt (0 ∷ [])) "solved steps 1 cost 3\n0 always 5 missed\n1 sometime 7 met\nmetric 8 utility 4\n"
    ∷ example (report_on belt (0 ∷ 0 ∷ 0 ∷ [])) "solved steps 3 cost 9\n0 always 5 missed\n1 sometime 7 met\nmetric 14 utility -2\n"
    ∷ example (report_on belt []) "goal missed\n"
    ∷ example (report_of (task_of belt) 12 (given (stopped 10))) "stopped 10\n"
    ∷ example (report_on (belt_with ALWAYS 5 (SOMETIME + HARD) 0) (0 ∷ [])) "solved steps 1 cost 3\n0 always 5 missed\n1 hard-sometime 0 met\nmetric 8 utility -3\n"
    ∷ example (report_on (belt_with (SOMETIME + HARD) 0 (ALWAYS + HARD) 0) (0 ∷ [])) "rule missed 1\n"
    ∷ example (report_on (belt_with (ALWAYS + HARD) 0 SOMETIME 7) []) "goal missed\n"
    ∷ []

pub as_said : map (λ (e : Example). e.given) examples ≡ map (λ (e : Example). ascii e.said) examples
unfolding check check_rows judged verdict decimal solved_line preference_line amounts_line stopped_line rule_missed_line report_on
as_said = refl

-- What comes of writing them

pub outcomes : (report_outcome belt (0 ∷ []) 76 ∷ report_outcome belt (0 ∷ []) 75 ∷ report_outcome belt (0 ∷ 2 ∷ []) 0 ∷ report_outcome [] [] 0 ∷ [])
    ≡ written 76 ∷ refused 9 0 ∷ refused 11 1 ∷ refused 1 0 ∷ []
unfolding check check_rows judged verdict decimal solved_line preference_line amounts_line report_on report_outcome
outcomes = refl

pub from_rows : report_of_rows (rows belt) 1 (judged belt (0 ∷ [])) ≡ report_on belt (0 ∷ [])
unfolding check check_rows judged verdict decimal preference_line row_line row_lines report_on
from_rows = refl
