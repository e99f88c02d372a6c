-- The rows of trackers, by the rows at which preferences begin.
use Rattle.std.specs.Prelude.{Bool, cond, List, [], ◌∷◌, ◌++◌, ℕ, ◌+◌, ◌*◌, ◌≤◌, leb, length, get_or}
use Rattle.lists.specs.Lists.{concat_map}
use Rattle.meaning.specs.Task.{Preference}
use Rattle.task.specs.TaskRows.{Row, effect_rows}
use Rattle.task.specs.File.{soft_mark, kind_of}
use Rattle.task.specs.Limits.{MAX_FACTS, MAX_PREFERENCES}
use Rattle.task.specs.Rows.{steps_at}
use Rattle.classical.specs.Translation.{further_facts, all_trackers}
use Rattle.layout.specs.Sides.{sides_at}
use Rattle.layout.specs.declared.sides.Sides.{Sides}
use Rattle.kind_trackers.specs.declared.Facts.{Facts}
use Rattle.kind_trackers.specs.Rows.{sided, tracker_rows}

-- as many preferences as a task may have, by the rows at which they begin, and F facts
pub record Noted (starts : List ℕ) (F : ℕ) : Type 0 where
  pub few_starts : length starts ≤ MAX_PREFERENCES
  pub few_facts : F ≤ MAX_FACTS

-- the facts of a preference whose first is s, d being the fact before D1
abbrev pub facts_from : ℕ → ℕ → Facts
facts_from s d = record { s = s; b = s + 1; d = d }

-- the trackers of the preference at row `at`, whose sides are p
abbrev pub trackers_with : List ℕ → List ℕ → ℕ → Sides → Facts → Bool → List Row
trackers_with ms vs at p f last = sided ms vs p (tracker_rows (soft_mark (get_or ms at 0)) (steps_at ms vs at) last f)

-- of the preference at row `at`, if there is such a row
abbrev pub trackers_at : List ℕ → List ℕ → ℕ → Facts → Bool → List Row
trackers_at ms vs at f last = cond (leb (length ms) at) [] (trackers_with ms vs at (sides_at ms at) f last)

-- how many facts D1, D2, … it has
abbrev pub further_at : List ℕ → List ℕ → ℕ → ℕ
further_at ms vs at = cond (leb (length ms) at) 0 (further_facts (kind_of (soft_mark (get_or ms at 0)) (steps_at ms vs at)))

-- of the preferences at some rows, whose facts begin with s, d being the fact before the first D1
abbrev pub trackers_from : List ℕ → List ℕ → Bool → List ℕ → ℕ → ℕ → List Row
trackers_from ms vs last [] s d = []
trackers_from ms vs last (at ∷ more) s d = trackers_at ms vs at (facts_from s d) last ++ trackers_from ms vs last more (s + 3) (d + further_at ms vs at)

-- of all preferences, over F facts
abbrev pub trackers_by : List ℕ → List ℕ → List ℕ → ℕ → Bool → List Row
trackers_by ms vs starts F last = trackers_from ms vs last starts F (F + 3 * length starts + 1)

-- the trackers of the preferences qs, which those come to where the rows spell qs
abbrev pub all_tracker_rows : Bool → ℕ → List Preference → List Row
all_tracker_rows last F qs = concat_map effect_rows (all_trackers last F qs)
