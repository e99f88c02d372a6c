-- What is answered for a source file and a list of its translated actions: document 02, request 13.
use Rattle.std.specs.Prelude.{◌≡◌, cond, List, ℕ, leb, ltb, length}
use Rattle.lists.specs.Lists.{all}
use Rattle.task.specs.File.{task_of}
use Rattle.task.specs.Limits.{MAX_STEPS}
use Rattle.task.specs.Refused.{LONG_PLAN, STEP}
use Rattle.plan.specs.Judged.{steps_known}
use Rattle.classical.specs.Translation.{translated, compiled, translated_actions}
use Rattle.translation.specs.Measured.{Measured, measured}
use Rattle.losses.specs.Losses.{Lost, lost_after, Losses}

-- lost weights or stopped, or a refusal with a number and a place
pub data Answered : Type 0 where
  given : Lost → Answered
  refused : ℕ → ℕ → Answered

-- 1 to 8 are those of translating
abbrev pub answered_by : List ℕ → List ℕ → Measured → Answered
answered_by b p (Measured.refused n i) = refused n i
answered_by b p (Measured.within z) =
    cond (leb (length p) MAX_STEPS)
    (cond (all (λ (k : ℕ). ltb k (translated_actions z)) p) (given (lost_after (task_of b) p)) (refused STEP (steps_known (translated_actions z) p)))
    (refused LONG_PLAN 0)

unfoldable pub answered : List ℕ → List ℕ → Answered
answered b p = answered_by b p (measured b)

-- the bytes that translate writes for b hold its translated task, and the claim holds of the task in them
pub record Claimed (b : List ℕ) : Type 0 where
  pub reading : task_of (compiled b) ≡ translated (task_of b)
  pub losses : Losses (task_of b) (task_of (compiled b))
