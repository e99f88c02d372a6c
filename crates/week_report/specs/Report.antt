-- The text of a week, which program week prints.
use Rattle.std.specs.Prelude.{List, [], ◌++◌, ℕ, length}
use Rattle.lists.specs.Lists.{concat_from}
use Rattle.outcome.specs.Outcome.{Outcome, written}
use Rattle.figures.specs.Plans.{count}
use Rattle.figures.specs.Figures.{Figures, none_solves, solve}
use Rattle.figures.specs.Week.{Answer, given, refused, week_of}
use Rattle.week_report.specs.Lines.{plans_line, solving_line, metric_line, meeting_line}

-- of so many plans: a line for each preference only where a plan solves
abbrev pub figures_text : ℕ → Figures → List ℕ
figures_text n none_solves = plans_line n ++ solving_line 0
figures_text n (solve m a) = plans_line n ++ solving_line m ++ metric_line a ++ concat_from meeting_line 0 a.meetings

-- a refused week has no text
abbrev pub answer_text : ℕ → Answer → List ℕ
answer_text n (given x) = figures_text n x
answer_text n (refused number place) = []

-- on the task file b and the file f of plans
unfoldable pub week_text : List ℕ → List ℕ → List ℕ
week_text b f = answer_text (count f) (week_of b f)

abbrev pub outcome_by : ℕ → Answer → Outcome
outcome_by bytes (given x) = written bytes
outcome_by bytes (refused number place) = Outcome.refused number place

unfoldable pub week_outcome : List ℕ → List ℕ → Outcome
week_outcome b f = outcome_by (length (week_text b f)) (week_of b f)
