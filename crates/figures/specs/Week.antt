-- What a week is answered: document 02, request 14.
use Rattle.std.specs.Prelude.{Bool, cond, ◌||◌, List, [], map, ℕ, leb, ltb, length, get_or}
use Rattle.lists.specs.Lists.{any, take_until}
use Rattle.task.specs.Limits.{MAX_STEPS}
use Rattle.task.specs.Refused.{LONG_PLAN, STEP, PLANS}
use Rattle.task.specs.File.{Sizes, task_of}
use Rattle.task.specs.Check
use Rattle.task.specs.Check.{check}
use Rattle.meaning.specs.Verdict.{verdict}
use Rattle.figures.specs.Plans.{plans, readable}
use Rattle.figures.specs.Figures.{Figures, figures}

-- the figures, or a refusal with a number and a place
pub data Answer : Type 0 where
  given : Figures → Answer
  refused : ℕ → ℕ → Answer

-- over 2,048 steps
abbrev pub is_long : List ℕ → Bool
is_long p = ltb MAX_STEPS (length p)

-- with a step that is not below A
abbrev pub has_unknown : ℕ → List ℕ → Bool
has_unknown A p = any (leb A) p

abbrev pub is_faulty : ℕ → List ℕ → Bool
is_faulty A p = is_long p || has_unknown A p

-- how many plans stand before the first faulty one: its number
abbrev pub first_faulty : ℕ → List (List ℕ) → ℕ
first_faulty A ps = length (take_until (is_faulty A) ps)

-- 10 before 11 on one plan
abbrev pub fault_number : List ℕ → ℕ
fault_number p = cond (is_long p) LONG_PLAN STEP

-- the plans of a task in b, of sizes z
abbrev pub of_plans : List ℕ → Sizes → List (List ℕ) → Answer
of_plans b z ps =
    let k : ℕ = first_faulty z.actions ps in
    cond (any (is_faulty z.actions) ps)
    (refused (fault_number (get_or ps k [])) k)
    (given (figures z.preferences (map (verdict (task_of b)) ps)))

abbrev pub week_by : List ℕ → List ℕ → Check.Answer → Answer
week_by b f (Check.refused n i) = refused n i
week_by b f (Check.accepted z) = cond (readable f) (of_plans b z (plans f)) (refused PLANS 0)

-- a task file and a plans file
unfoldable pub week_of : List ℕ → List ℕ → Answer
week_of b f = week_by b f (check b)
