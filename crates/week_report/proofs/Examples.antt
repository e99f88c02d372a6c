-- Texts for the belt: what the definitions give, and what they should.
use mathlib.Core.Path.{◌≡◌, refl}
use mathlib.Core.List.{[], ◌∷◌}
use Rattle.task.specs.Check.{check, check_rows}
use Rattle.meaning.specs.Verdict.{verdict}
use Rattle.task.proofs.Belt.{belt}
use Rattle.text.specs.Ascii.{ascii}
use Rattle.text.specs.Text.{decimal}
use Rattle.outcome.specs.Outcome.{written, refused}
use Rattle.figures.specs.Plans.{readable}
use Rattle.figures.specs.Week.{week_of}
use Rattle.figures.proofs.Examples.{four}
use Rattle.week_report.specs.Lines.{plans_line, solving_line, metric_line, meeting_line}
use Rattle.week_report.specs.Report.{week_text, week_outcome}

-- three of four plans solve; none of one does; a file of plans that can't be read has no text
pub as_said : (week_text belt four ∷ week_text belt (1 ∷ 0 ∷ 0 ∷ 0 ∷ 0 ∷ 0 ∷ []) ∷ week_text belt [] ∷ [])
    ≡ ascii "plans 4\nsolving 3\nmetric least 8 greatest 12 sum 28 mean 9 remainder 1\npreference 0 met 0\npreference 1 met 3\n"
    ∷ ascii "plans 1\nsolving 0\n" ∷ [] ∷ []
unfolding check check_rows verdict decimal readable week_of plans_line solving_line metric_line meeting_line week_text
as_said = refl

pub outcomes : (week_outcome belt four ∷ week_outcome belt [] ∷ []) ≡ written 109 ∷ refused 18 0 ∷ []
unfolding check check_rows verdict decimal readable week_of plans_line solving_line metric_line meeting_line week_text week_outcome
outcomes = refl
