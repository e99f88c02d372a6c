-- What the answers of `walk` stand for: the values of each case.
use Rattle.std.specs.Prelude.{Result, Ok, Err}
use Rattle.task.specs.Answers.{number_of}
use Rattle.task.specs.declared.Refusal.{Refusal}
use Rattle.state.specs.Member.{bit}
use Rattle.plan.specs.Walked
use Rattle.plan.specs.Walked.{Walk}
use Rattle.plan.specs.declared.Verdict.{Verdict}
use Rattle.plan.specs.declared.Verdict.TheVariants.{Solved, Stopped, GoalMissed, RuleMissed}
use Rattle.plan.specs.declared.Walked as Declared

abbrev pub as_verdict : Verdict → Walk
as_verdict (Solved s) = Walked.solved s.cost (bit s.met)
as_verdict (Stopped i) = Walked.stopped i
as_verdict GoalMissed = Walked.goal_missed
as_verdict (RuleMissed i) = Walked.rule_missed i

abbrev pub given_as : Declared.Walked → Walked.Walked
given_as w = Walked.given (as_verdict w.verdict) w.looked

abbrev pub walked_as : Result Declared.Walked Refusal → Walked.Walked
walked_as (Ok w) = given_as w
walked_as (Err r) = Walked.refused (number_of r.cause) r.place
