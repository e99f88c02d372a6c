-- What walk answers on a task file and a plan: what judge gave, less metric and utility, and how many literals were looked at.
-- Document 02, requests 5 and 7.
use Rattle.std.specs.Prelude.{Bool, List, ℕ}
use Rattle.task.specs.File.{task_of}
use Rattle.meaning.specs.Literals.{literals}
use Rattle.meaning.specs.Verdict.{Verdict}
use Rattle.plan.specs.Judged.{Judged, judged}

-- a verdict: solved has cost and the set of the met preferences' numbers; stopped has the first step that doesn't apply,
-- and rule_missed the lowest hard preference that is missed
pub data Walk : Type 0 where
  solved : ℕ → (ℕ → Bool) → Walk
  stopped : ℕ → Walk
  goal_missed : Walk
  rule_missed : ℕ → Walk

-- a verdict with the number of literals looked at, or a refusal with a number and a place
pub data Walked : Type 0 where
  given : Walk → ℕ → Walked
  refused : ℕ → ℕ → Walked

-- less the amounts that settle gives
abbrev pub without_amounts : Verdict → Walk
without_amounts (Verdict.solved cost metric utility met) = solved cost met
without_amounts (Verdict.stopped i) = stopped i
without_amounts Verdict.goal_missed = goal_missed
without_amounts (Verdict.rule_missed i) = rule_missed i

-- with so many literals looked at
abbrev pub without_worth : ℕ → Judged → Walked
without_worth looked (Judged.given v) = given (without_amounts v) looked
without_worth looked (Judged.refused n i) = refused n i

unfoldable pub walked : List ℕ → List ℕ → Walked
walked b p = without_worth (literals (task_of b) p) (judged b p)
