-- What a function that writes one of the texts asks and gives.
use Rattle.std.specs.Prelude.{◌≡◌, List, ◌++◌, ℕ, ◌≤◌, length}
use Rattle.lists.specs.Lists.{concat_map}
use Rattle.meaning.specs.Task.{Task}
use Rattle.task.specs.TaskRows.{action_rows, preference_rows, task_rows}
use Rattle.task.specs.File.{paired}
use Rattle.text.specs.Area.{Filled}
use Rattle.pddl_parts.specs.Writing.{Stretch, stretch, rows_in}
use Rattle.pddl_parts.specs.declared.conditions.Emitted.{Emitted}
use Rattle.pddl_text.specs.Pddl.{domain_text, problem_text}

-- the rows of t after its goal's condition
abbrev pub ActionsAt : Task → Stretch → Type 0
ActionsAt t s = rows_in s ≡ concat_map action_rows t.actions ++ concat_map preference_rows t.preferences

abbrev pub ProblemAnswer : List ℕ → List ℕ → List ℕ → Emitted → List ℕ → Type 0
ProblemAnswer ms vs b r out =
    (t : Task) → paired ms vs ≡ task_rows t → Filled b (problem_text t) r.at out × ActionsAt t (stretch ms vs r.next)

abbrev pub DomainAnswer : ℕ → Stretch → List ℕ → ℕ → List ℕ → Type 0
DomainAnswer facts s b r out = (t : Task) → facts ≡ t.facts → ActionsAt t s → Filled b (domain_text t) r out

-- the rows are some task's
abbrev pub Spelled : List ℕ → List ℕ → Type 0
Spelled ms vs = (t : Task) × (paired ms vs ≡ task_rows t)

-- of so many facts
abbrev pub SpelledOver : ℕ → List ℕ → List ℕ → Type 0
SpelledOver facts ms vs = (t : Task) × (facts ≡ t.facts) × (paired ms vs ≡ task_rows t)

-- an area of this length holds every text of an accepted task (proofs/Longest)
abbrev pub MAX_PDDL : ℕ
MAX_PDDL = 262144

-- and no text of it is longer
abbrev pub SpelledShort : ℕ → List ℕ → List ℕ → Type 0
SpelledShort facts ms vs =
    (t : Task) × (facts ≡ t.facts) × (paired ms vs ≡ task_rows t)
    × ((length (domain_text t) ≤ MAX_PDDL) × (length (problem_text t) ≤ MAX_PDDL))

-- of so many facts, and these are the rows after its goal's condition
abbrev pub ActionsOver : ℕ → Stretch → Type 0
ActionsOver facts s = (t : Task) × (facts ≡ t.facts) × ActionsAt t s

-- what holds of the task that the rows spell
abbrev pub OfTask : ℕ → List ℕ → List ℕ → (Task → Type 0) → Type 0
OfTask facts ms vs holds = (t : Task) → facts ≡ t.facts → paired ms vs ≡ task_rows t → holds t
