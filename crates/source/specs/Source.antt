-- What is answered for a planner's text on the translation of a task: the source part of its steps.
use Rattle.std.specs.Prelude.{cond, List, ℕ, T, leb, ltb, length, take}
use Rattle.classical.specs.Translation.{translated_actions}
use Rattle.lists.specs.Lists.{all, filter}
use Rattle.task.specs.File.{Sizes, sizes, task_of}
use Rattle.task.specs.Limits.{MAX_STEPS}
use Rattle.task.specs.Refused.{LONG_PLAN, STEP, TEXT}
use Rattle.meaning.specs.Meaning.{solves, cost}
use Rattle.outcome.specs.Outcome.{Outcome, refused, fitted}
use Rattle.plan.specs.Judged.{steps_known}
use Rattle.plan_lines.specs.PlanText.{Read, plan, faulty, read_plan}
use Rattle.plan_text.specs.Outcomes.{steps_in}
use Rattle.translation.specs.Translated.{Delivered}
use Rattle.translation.specs.Measured.{Measured, within, measured}
use Rattle.paid.specs.CostIsMetric.{SettledAt}

-- the steps below A, in their order
abbrev pub below : ℕ → List ℕ → List ℕ
below A = filter (λ (k : ℕ). ltb k A)

-- Refusals: those of translating but 9, then 12, 10, 11 over the translated actions, and 9

-- a list of at most 2,048 steps
abbrev pub of_known : Sizes → ℕ → List ℕ → Outcome
of_known z room p =
    cond (all (λ (k : ℕ). ltb k (translated_actions z)) p)
    (fitted (length (below z.actions p)) room)
    (refused STEP (steps_known (translated_actions z) p))

abbrev pub of_text : Sizes → ℕ → Read → Outcome
of_text z room (plan p) = cond (leb (length p) MAX_STEPS) (of_known z room p) (refused LONG_PLAN 0)
of_text z room (faulty i) = refused TEXT i

abbrev pub outcome_by : ℕ → Read → Measured → Outcome
outcome_by room r (within z) = of_text z room r
outcome_by room r (Measured.refused n i) = refused n i

unfoldable pub outcome : List ℕ → List ℕ → ℕ → Outcome
outcome b t room = outcome_by room (read_plan t) (measured b)

-- the source part of the steps in a text, with the A of a file
unfoldable pub part_in : List ℕ → List ℕ → List ℕ
part_in b t = below (sizes b).actions (steps_in t)

-- The whole way of a text t: where its steps solve the task c that translate has written of b, the first m bytes of the area are a plan that
-- walk and settle find to solve b's task, and its metric is what the steps cost in c

pub record Returned (b t area : List ℕ) (m : ℕ) : Type 0 where
  pub way : (written_area : List ℕ) (n : ℕ) → Delivered b written_area n → T (solves (task_of (take n written_area)) (steps_in t))
      → T (solves (task_of b) (take m area)) × SettledAt b (take m area) (cost (task_of (take n written_area)) (steps_in t))
