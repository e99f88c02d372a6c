-- The monitors of a task's preferences, and what one more state does to them.
use Rattle.std.specs.Prelude.{◌≡◌, Bool, true, cond, ◌&&◌, ◌||◌, List, ℕ, ◌+◌, ◌≤◌, ◌<◌, T, leb, eqb, length, drop, get_or}
use Rattle.lists.specs.Lists.{all, concat_map}
use Rattle.task.specs.Marks.{SOMETIME_BEFORE, SOMETIME_AFTER, WITHIN, ALWAYS_WITHIN}
use Rattle.meaning.specs.Task.{Preference}
use Rattle.task.specs.TaskRows.{preference_rows}
use Rattle.task.specs.File.{paired, soft_mark}
use Rattle.task.specs.Spelling.{preference_spellable}
use Rattle.task.specs.Limits.{MAX_PREFERENCES}
use Rattle.meaning.specs.Meaning.{State as Facts, seen, no_preference}
use Rattle.meaning.specs.Literals.{looked_preferences}
use Rattle.meaning.specs.Monitor.{step}
use Rattle.reading.specs.Conditions.{begin, evaluate_at}
use Rattle.reading.specs.declared.conditions.Evaluated.{Evaluated}
use Rattle.monitor.specs.Packed.{monitor_at}
use Rattle.monitors.specs.declared.Sides.{Sides}

-- By a preference's mark

-- how many rows stand before φ
abbrev pub head_rows : ℕ → ℕ
head_rows m = cond (leb WITHIN m && leb m ALWAYS_WITHIN) 2 1

abbrev pub is_two_sided : ℕ → Bool
is_two_sided m = leb SOMETIME_BEFORE m && leb m SOMETIME_AFTER || eqb m ALWAYS_WITHIN

-- The sides of a preference

-- φ alone
abbrev pub one_side : Evaluated → Sides
one_side x = record { phi = x.holds; psi = true; looked = x.looked; next = x.next }

abbrev pub both_sides : Evaluated → Evaluated → Sides
both_sides x y = record { phi = x.holds; psi = y.holds; looked = x.looked + y.looked; next = y.next }

-- φ of the preference that row i opens, as it is read in σ
abbrev pub first_side : Facts → List ℕ → List ℕ → ℕ → Evaluated
first_side σ ms vs i = evaluate_at σ begin ms vs (i + head_rows (soft_mark (get_or ms i 0)))

-- its sides: ψ stands after φ and a row SECOND
unfoldable pub sides_at : Facts → List ℕ → List ℕ → ℕ → Sides
sides_at σ ms vs i =
    cond (is_two_sided (soft_mark (get_or ms i 0)))
    (both_sides (first_side σ ms vs i) (evaluate_at σ begin ms vs ((first_side σ ms vs i).next + 1)))
    (one_side (first_side σ ms vs i))

-- two conditions have no more literals, of 12,000 rows each
abbrev pub MOST_LOOKED : ℕ
MOST_LOOKED = 24000

-- The preferences of a task

-- qs stand from row i on, as many as a file may have
pub record PreferencesFrom (ms vs : List ℕ) (i : ℕ) (qs : List Preference) : Type 0 where
  pub spelled : drop i (paired ms vs) ≡ concat_map preference_rows qs
  pub spelling : T (all preference_spellable qs)
  pub few : length qs ≤ MAX_PREFERENCES

abbrev pub SomePreferences : List ℕ → List ℕ → ℕ → Type 0
SomePreferences ms vs i = (qs : List Preference) × PreferencesFrom ms vs i qs

-- P of whichever stand there
abbrev pub ForPreferences : List ℕ → List ℕ → ℕ → (List Preference → Type 0) → Type 0
ForPreferences ms vs i P = (qs : List Preference) → PreferencesFrom ms vs i qs → P qs

-- each monitor of qs has seen σ, and so many literals were looked at
pub record Watched (last : Bool) (σ : Facts) (before after : List ℕ) (looked : ℕ) (qs : List Preference) : Type 0 where
  pub monitors : (j : ℕ) → j < length qs
      → monitor_at after j ≡ step (get_or qs j no_preference).kind last (monitor_at before j) (seen (get_or qs j no_preference) σ)
  pub literals : looked ≡ looked_preferences σ qs
