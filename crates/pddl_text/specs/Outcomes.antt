-- What comes of writing a task as PDDL: document 02, request 4.
use Rattle.std.specs.Prelude.{Bool, cond, ◌&&◌, List, ◌++◌, ℕ, eqb, leb, length, drop}
use Rattle.meaning.specs.Task.{Task}
use Rattle.task.specs.File.{task_of}
use Rattle.task.specs.Check
use Rattle.task.specs.Check.{Answer, check}
use Rattle.pddl_text.specs.Pddl.{domain_text, problem_text}
use Rattle.task.specs.Refused.{PREFERENCES, SHORT_AREA}

-- the lengths of the domain and of the problem, or a refusal with a number and a place
pub data Outcome : Type 0 where
  written : ℕ → ℕ → Outcome
  refused : ℕ → ℕ → Outcome

-- whether both texts of t fit into areas of so many bytes
abbrev pub both_fit : Task → ℕ → ℕ → Bool
both_fit t domain problem = leb (length (domain_text t)) domain && leb (length (problem_text t)) problem

-- the texts of t, for areas of so many bytes
abbrev pub fitted : Task → ℕ → ℕ → Outcome
fitted t domain problem =
    cond (both_fit t domain problem) (written (length (domain_text t)) (length (problem_text t))) (refused SHORT_AREA 0)

abbrev pub outcome_by : List ℕ → ℕ → ℕ → Answer → Outcome
outcome_by b domain problem (Check.refused n i) = refused n i
outcome_by b domain problem (Check.accepted z) = cond (eqb z.preferences 0) (fitted (task_of b) domain problem) (refused PREFERENCES 0)

-- the task in b, for areas of so many bytes
unfoldable pub outcome : List ℕ → ℕ → ℕ → Outcome
outcome b domain problem = outcome_by b domain problem (check b)

-- the two areas after the texts were written, or after a refusal
abbrev pub domain_after : Task → List ℕ → Outcome → List ℕ
domain_after t area (written d p) = domain_text t ++ drop d area
domain_after t area (refused n i) = area

abbrev pub problem_after : Task → List ℕ → Outcome → List ℕ
problem_after t area (written d p) = problem_text t ++ drop p area
problem_after t area (refused n i) = area

-- The task in b over two areas: what comes of it, and the areas then

abbrev pub outcome_over : List ℕ → List ℕ → List ℕ → Outcome
outcome_over b domain problem = outcome b (length domain) (length problem)

abbrev pub domain_over : List ℕ → List ℕ → List ℕ → List ℕ
domain_over b domain problem = domain_after (task_of b) domain (outcome_over b domain problem)

abbrev pub problem_over : List ℕ → List ℕ → List ℕ → List ℕ
problem_over b domain problem = problem_after (task_of b) problem (outcome_over b domain problem)
