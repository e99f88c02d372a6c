-- The last line of program confirm: what a planner paid, held to the metric of the plan that it paid for.
use Rattle.std.specs.Prelude.{cond, List, ◌++◌, ℕ, eqb}
use Rattle.meaning.specs.Verdict.{solved, stopped, goal_missed, rule_missed}
use Rattle.plan.specs.Judged.{Judged, given, refused}
use Rattle.plan.specs.Walked.{walked}
use Rattle.plan.specs.ThenSettled.{then_settle}
use Rattle.text.specs.Ascii.{ascii}
use Rattle.text.specs.Text.{decimal}

-- the metric of a plan, where it solves
pub data Metric : Type 0 where
  metric : ℕ → Metric
  unsolved : Metric

abbrev pub metric_in : Judged → Metric
metric_in (given (solved cost m utility met)) = metric m
metric_in (given (stopped step)) = unsolved
metric_in (given goal_missed) = unsolved
metric_in (given (rule_missed rule)) = unsolved
metric_in (refused number place) = unsolved

-- by walk and then settle, for the task file b and the plan p
unfoldable pub metric_of : List ℕ → List ℕ → Metric
metric_of b p = metric_in (then_settle b (walked b p))

-- The lines: the metric was paid, the plan is worth another metric, it does not solve

unfoldable pub paid_line : ℕ → List ℕ
paid_line cost = ascii "paid " ++ decimal cost ++ ascii "\n"

unfoldable pub otherwise_line : ℕ → ℕ → List ℕ
otherwise_line cost m = ascii "paid " ++ decimal cost ++ ascii " but worth " ++ decimal m ++ ascii "\n"

unfoldable pub unsolved_line : ℕ → List ℕ
unsolved_line cost = ascii "paid " ++ decimal cost ++ ascii " but not solved\n"

-- no line is longer: two numbers of 20 digits, and the words
abbrev pub LONGEST : ℕ
LONGEST = 57

abbrev pub held_to : Metric → ℕ → List ℕ
held_to (metric m) cost = cond (eqb cost m) (paid_line cost) (otherwise_line cost m)
held_to unsolved cost = unsolved_line cost

-- the line about the plan p on the task file b, for which so much was paid
abbrev pub line_on : List ℕ → List ℕ → ℕ → List ℕ
line_on b p = held_to (metric_of b p)
