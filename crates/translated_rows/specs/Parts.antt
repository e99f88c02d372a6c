-- The parts of the translated task as rows, from the rows of its source.
use Rattle.std.specs.Prelude.{◌≡◌, true, List, [], ◌∷◌, ◌++◌, map, ℕ, zero, suc, ◌+◌, ◌*◌, ◌-◌, ◌/◌, ◌≤◌, ◌<◌, T, length, drop}
use Rattle.lists.specs.Lists.{all, concat_map}
use Rattle.task.specs.Marks.{ACTION, EFFECT, CLAUSE, HOLDS, LACKS, ADD, DELETE, GOAL, START}
use Rattle.meaning.specs.Task.{Preference, Task}
use Rattle.task.specs.TaskRows.{Row, row, action_rows, preference_rows, task_rows}
use Rattle.task.specs.File.{paired, task_of_rows}
use Rattle.task.specs.Spelling.{kind_spellable, spellable}
use Rattle.task.specs.Limits.{MAX_FACTS, MAX_PREFERENCES}
use Rattle.classical.specs.Translation.{fact_c, normal, source_action, end_action, closings, translated}
use Rattle.layout.specs.Sides
use Rattle.layout.specs.Sides.{stretch, starts_from}
use Rattle.layout.specs.declared.sides.Span.{Span}
use Rattle.writer.specs.Writer.{Standing}
use Rattle.writer.specs.declared.Cursor.{Cursor}
use Rattle.effects.specs.Effects.{single_rows}
use Rattle.trackers.specs.Trackers.{Noted, trackers_by}
use Rattle.translated_rows.specs.declared.parts.Body.{Body}
use Rattle.translated_rows.specs.declared.places.Places.{Places}

-- The source

-- the task over F facts that the rows are read as
abbrev pub read_task : ℕ → List ℕ → List ℕ → Task
read_task F ms vs = task_of_rows F (paired ms vs)

-- the rows spell the task over F facts that they are read as, with P preferences, and few of both
pub record Source (ms vs : List ℕ) (F P : ℕ) : Type 0 where
  pub spelled : paired ms vs ≡ task_rows (read_task F ms vs)
  pub spelling : T (spellable (read_task F ms vs))
  pub many : P ≡ length (read_task F ms vs).preferences
  pub some_facts : 1 ≤ F
  pub few_facts : F + 3 * P + 2 ≤ MAX_FACTS
  pub few_preferences : P ≤ MAX_PREFERENCES

-- where the parts of the task begin: START rows, GOAL and its clauses, actions, and then the preferences
pub record Found (ms : List ℕ) (p : Places) : Type 0 where
  pub goal_at : p.goal ≡ Sides.end_at START START ms 0
  pub from_at : p.from ≡ Sides.end_at CLAUSE LACKS ms (Sides.end_at GOAL GOAL ms p.goal)
  pub to_at : p.to ≡ Sides.end_at ACTION DELETE ms p.from
  pub goal_first : p.goal ≤ p.from
  pub from_inside : p.from ≤ length ms
  pub inside : p.to ≤ length ms

-- the goal stands before row `from`, which is among the rows or their end
pub record GoalInside (ms : List ℕ) (goal from : ℕ) : Type 0 where
  pub ordered : goal ≤ from
  pub inside : from ≤ length ms

-- its actions stand in the rows s, its preferences after them, beginning at the rows `starts`; N is the fact *normal*
pub record Placed (ms vs : List ℕ) (F : ℕ) (s : Span) (starts : List ℕ) (N : ℕ) : Type 0 where
  pub acts : drop s.from (paired ms vs) ≡ concat_map action_rows (read_task F ms vs).actions ++ concat_map preference_rows (read_task F ms vs).preferences
  pub prefs : drop s.to (paired ms vs) ≡ concat_map preference_rows (read_task F ms vs).preferences
  pub inside : s.to ≤ length ms
  pub begun : starts ≡ starts_from ms s.to (length (read_task F ms vs).preferences)
  pub many : length starts ≡ length (read_task F ms vs).preferences
  pub timed : T (all (λ (q : Preference). kind_spellable q.kind) (read_task F ms vs).preferences)
  pub normal_is : N ≡ normal F (length (read_task F ms vs).preferences)
  pub some_facts : 1 ≤ F
  pub noted : Noted starts F
  pub few_normal : N ≤ MAX_FACTS

-- Actions

pub record BodyInside (ms : List ℕ) (a : Body) : Type 0 where
  pub mid_inside : a.mid ≤ length ms
  pub next_inside : a.next ≤ length ms

-- a source action, up to its trackers
abbrev pub own_rows : List ℕ → List ℕ → Body → ℕ → List Row
own_rows ms vs a N = stretch ms vs a.from a.mid ++ (single_rows HOLDS N ++ stretch ms vs a.mid a.next)

-- the rows t stand before the next one, and hold the rows xs, if any
pub record Before (b : List ℕ) (c : Cursor) (t : Span) (xs : List Row) : Type 0 where
  pub below : t.to ≤ c.next
  pub held : t.from < t.to → Standing b c.rows t xs

-- all of them
abbrev pub source_actions : List ℕ → List ℕ → ℕ → List Row
source_actions ms vs F = concat_map action_rows (map (source_action F (read_task F ms vs).preferences) (read_task F ms vs).actions)

abbrev pub end_at : List ℕ → List ℕ → List ℕ → ℕ → ℕ → List Row
end_at ms vs starts F N =
    row ACTION 0 ∷ single_rows HOLDS N ++ (row EFFECT 0 ∷ row ADD (N + 1) ∷ row DELETE N ∷ trackers_by ms vs starts F true)

-- All actions of the translation

abbrev pub all_actions : List ℕ → List ℕ → ℕ → List Row
all_actions ms vs F =
    source_actions ms vs F
    ++ (action_rows (end_action F (read_task F ms vs).preferences)
    ++ concat_map action_rows (closings F (length (read_task F ms vs).preferences) 0 (read_task F ms vs).preferences))

-- The opening and the goal

-- how many preferences have their three facts from F on, before *ended*
abbrev pub preferences_to : ℕ → ℕ → ℕ
preferences_to F E = (E - F) / 3

-- holds C of m preferences, from preference k on
abbrev pub closed_rows : ℕ → ℕ → ℕ → List Row
closed_rows F k zero = []
closed_rows F k (suc m) = single_rows HOLDS (fact_c F k) ++ closed_rows F (k + 1) m

-- the START rows xs, and GOAL with the source's clauses ys
abbrev pub opening_rows : ℕ → ℕ → ℕ → List Row → List Row → List Row
opening_rows F N m xs ys = xs ++ ((row START N ∷ []) ++ (ys ++ (single_rows HOLDS (N + 1) ++ closed_rows F 0 m)))

-- GOAL stands at row `goal`, and the goal's clauses before row `from`
abbrev pub opening_at : List ℕ → List ℕ → ℕ → ℕ → ℕ → ℕ → List Row
opening_at ms vs goal from F N = opening_rows F N (preferences_to F (N + 1)) (stretch ms vs 0 goal) (stretch ms vs goal from)

-- The whole

-- the rows of the translation of the task that the rows are read as
abbrev pub translated_rows : List ℕ → List ℕ → ℕ → List Row
translated_rows ms vs F = task_rows (translated (read_task F ms vs))
