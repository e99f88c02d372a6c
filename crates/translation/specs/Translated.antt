-- What translate answers on a task file and an output area, and what it delivers: document 01, 'Refused', and faithfulness (demand 3).
use Rattle.std.specs.Prelude.{◌≡◌, Bool, cond, ◌&&◌, List, ℕ, ◌+◌, ◌*◌, leb, length, take}
use Rattle.task.specs.File.{Sizes, sizes, task_of}
use Rattle.task.specs.Check
use Rattle.task.specs.Check.{Answer, check}
use Rattle.outcome.specs.Outcome.{Outcome, refused, fitted}
use Rattle.classical.specs.Translation.{further, translated_sizes, compiled_rows}
use Rattle.classical.specs.Claim.{Faithful}
use Rattle.task.specs.Limits.{MAX_ACTIONS, MAX_FACTS, MAX_ROWS}
use Rattle.task.specs.Refused.{TOO_MANY, TRANSLATION_ROWS}

-- a translation of n rows, for an area of so many bytes
abbrev pub rows_fitted : ℕ → ℕ → Outcome
rows_fitted n room = cond (leb n MAX_ROWS) (fitted (8 + 5 * n) room) (refused TRANSLATION_ROWS 0)

-- the facts and the actions of the translation are few enough, with d facts D
abbrev pub small_enough : Sizes → ℕ → Bool
small_enough z d = leb (z.facts + 3 * z.preferences + 2 + d) MAX_FACTS && leb (z.actions + 2 * z.preferences + 1) MAX_ACTIONS

-- the task in b is translated where check has accepted it
abbrev pub outcome_by : List ℕ → ℕ → Answer → Outcome
outcome_by b room (Check.refused n i) = refused n i
outcome_by b room (Check.accepted z) = cond (small_enough z (further (task_of b).preferences)) (rows_fitted (compiled_rows b) room) (refused TOO_MANY 0)

unfoldable pub outcome : List ℕ → ℕ → Outcome
outcome b room = outcome_by b room (check b)

-- demand 3: the first n bytes of the area hold a task that is faithful to the one in b. A and P being the sizes in b, source
-- steps are the numbers below A, and the steps of a solution numbers below A + 2P + 1
pub record Delivered (b area : List ℕ) (n : ℕ) : Type 0 where
  pub accepting : check (take n area) ≡ Check.accepted (translated_sizes (sizes b) (further (task_of b).preferences) (compiled_rows b))
  pub faithfully : Faithful (task_of b) (task_of (take n area))
  pub source_actions : length (task_of b).actions ≡ (sizes b).actions
  pub written_actions : length (task_of (take n area)).actions ≡ (sizes b).actions + 2 * (sizes b).preferences + 1
