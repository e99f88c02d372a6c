-- Marks with the values beside them, and the task that they spell.
use Rattle.std.specs.Prelude.{◌≡◌, List, ℕ, ◌≤◌, T, length, drop}
use Rattle.lists.specs.Lists.{concat_map}
use Rattle.meaning.specs.Task.{Task, well_formed}
use Rattle.task.specs.TaskRows.{preference_rows, task_rows}
use Rattle.task.specs.File.{paired}
use Rattle.task.specs.Spelling.{spellable}
use Rattle.task.specs.Limits.{MAX_FACTS, MAX_PREFERENCES}

-- the rows are those of t, within the limits of a task file
pub record Spells (ms vs : List ℕ) (t : Task) : Type 0 where
  pub spelled : paired ms vs ≡ task_rows t
  pub formed : T (well_formed t)
  pub spelling : T (spellable t)
  pub few_facts : t.facts ≤ MAX_FACTS
  pub few_preferences : length t.preferences ≤ MAX_PREFERENCES

-- the rows are some task's
abbrev pub Spelled : List ℕ → List ℕ → Type 0
Spelled ms vs = (t : Task) × Spells ms vs t

-- the preferences of t stand from row at on
abbrev pub PreferencesAt : Task → List ℕ → List ℕ → ℕ → Type 0
PreferencesAt t ms vs at = drop at (paired ms vs) ≡ concat_map preference_rows t.preferences
