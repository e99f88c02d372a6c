-- The judged plan: what judge answers on a task file and a plan, by document 01's 'Refused'.
use Rattle.std.specs.Prelude.{cond, List, ℕ, leb, ltb, length}
use Rattle.lists.specs.Lists.{all, take_until}
use Rattle.task.specs.File.{task_of}
use Rattle.task.specs.Check.{Answer, check}
use Rattle.task.specs.Check
use Rattle.meaning.specs.Verdict.{Verdict, verdict}
use Rattle.task.specs.Limits.{MAX_STEPS}
use Rattle.task.specs.Refused.{LONG_PLAN, STEP}

-- a verdict, or a refusal with a number and a place
pub data Judged : Type 0 where
  given : Verdict → Judged
  refused : ℕ → ℕ → Judged

-- how many steps stand before the first that is not below A
abbrev pub steps_known : ℕ → List ℕ → ℕ
steps_known A p = length (take_until (leb A) p)

-- a plan is judged on the task in b where check has accepted it
abbrev pub judged_by : List ℕ → List ℕ → Answer → Judged
judged_by b p (Check.refused n i) = refused n i
judged_by b p (Check.accepted z) =
    cond (leb (length p) MAX_STEPS)
    (cond (all (λ (k : ℕ). ltb k z.actions) p) (given (verdict (task_of b) p)) (refused STEP (steps_known z.actions p)))
    (refused LONG_PLAN 0)

unfoldable pub judged : List ℕ → List ℕ → Judged
judged b p = judged_by b p (check b)
