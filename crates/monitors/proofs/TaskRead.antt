-- What the readers give on marks and values that spell a task: its opening state, its goal, its actions, its preferences.
use mathlib.Core.Path.{◌≡◌, refl, sym, ap, ◌∙◌, subst}
use mathlib.Core.Bool.{Bool, ◌&&◌}
use mathlib.Core.List.{List, ◌++◌, append_assoc}
use Prim.Native.Nat.{ℕ, ◌+◌, ◌<◌}
use lib.ListN.{length, drop, length-map}
use borrow.Author.Tests.{lt-ltb}
use Rattle.lists.specs.Lists.{concat_map, take_until}
use Rattle.task.specs.Marks.{ACTION}
use Rattle.meaning.specs.Task.{Action, Task}
use Rattle.task.specs.TaskRows.{Row, row, condition_rows, effect_rows, task_rows}
use Rattle.task.specs.File.{paired, marks, is_preference, opens_preference}
use Rattle.task.specs.Rows.{value_at}
use Rattle.meaning.specs.Meaning.{State as Facts, is_true, opening, action_at, applies}
use Rattle.meaning.specs.Literals.{looked_at}
use Rattle.lists.proofs.Tests.{tests, take_until-map}
use Rattle.task.proofs.Bytes.{marks-paired}
use Rattle.task.proofs.Reading.{value_at_lem}
use Rattle.meaning.proofs.WellFormed.{start_below, effects_below}
use Rattle.task.proofs.Passing.{step_rows}
use Rattle.task.proofs.RoundTrip.{from_goal, task_grouped}
use Rattle.task.proofs.Positions.{drop_next, drop_after, tail_rows, tail_stops, effects_stop, goal_after, preferences_after}
use Rattle.state.specs.Member.{empty}
use Rattle.reading.specs.Conditions.{in_condition, begin, read_as, evaluate_at}
use Rattle.reading.specs.Effects.{in_effects, EffectsAt}
use Rattle.reading.specs.Opening.{open_at}
use Rattle.reading.proofs.OpeningRows.{opening_at_lem}
use Rattle.reading.proofs.ConditionRows.{condition_at}
use Rattle.reading.specs.declared.conditions.Evaluated.{Evaluated}
use Rattle.layout.specs.Actions.{action_row, ActionAt}
use Rattle.layout.specs.Rows.{Spells, PreferencesAt}
use Rattle.monitors.specs.Monitors.{PreferencesFrom}
use Rattle.monitors.proofs.ByMark.{kind_past, kind_past_effects}
use Rattle.layout.proofs.ActionRows.{others, rows_at}

module _ (t : Task) (ms vs : List ℕ) (R : Spells ms vs t) where
  pub opening_read : open_at empty ms vs 0 ≡ record { state = opening t; next = length t.start }
  opening_read =
      opening_at_lem t.facts R.few_facts ms vs t.start (from_goal t) (R.spelled ∙ task_grouped t) refl (start_below t R.formed)

  pub preferences_read : PreferencesAt t ms vs (length (take_until opens_preference ms))
  preferences_read =
      let m : ms ≡ marks (task_rows t) = sym (marks-paired ms vs) ∙ ap marks R.spelled in
      let n : length (take_until opens_preference ms) ≡ length (take_until is_preference (task_rows t)) =
      ap (λ (l : List ℕ). length (take_until opens_preference l)) m
      ∙ ap length (take_until-map opens_preference (λ (x : Row). x.mark) (task_rows t))
      ∙ length-map (take_until is_preference (task_rows t)) (λ (x : Row). x.mark) in
      (λ i. drop (n i) (R.spelled i)) ∙ preferences_after t

  -- within the limits of a file
  pub preferences_there : (i : ℕ) → PreferencesAt t ms vs i → PreferencesFrom ms vs i t.preferences
  preferences_there i there = record { spelled = there; spelling = (let s = R.spelling in search tests); few = R.few_preferences }

  pub goal_read : (σ : Facts)
      → evaluate_at σ begin ms vs (length t.start + 1) ≡ read_as σ t.goal (length t.start + 1 + length (condition_rows t.goal))
  goal_read σ =
      condition_at σ ms vs (length t.start + 1) t.goal (tail_rows t.actions t.preferences)
      (ap (drop (length t.start + 1)) R.spelled ∙ goal_after t)
      (tail_stops in_condition kind_past refl t.actions t.preferences)

  module _ (k : ℕ) (h : k < length t.actions) where
    abbrev a : Action
    a = action_at t k

    abbrev after : List Row
    after = tail_rows (others t ms vs R k h) t.preferences

    pub cost_read : action_row t k < length ms → value_at vs (action_row t k) ≡ a.cost
    cost_read b = value_at_lem ms vs (action_row t k) b (rows_at t ms vs R k h)

    abbrev pub at : ℕ
    at = action_row t k + 1

    precondition_rows : drop at (paired ms vs) ≡ condition_rows a.precondition ++ (concat_map effect_rows a.effects ++ after)
    precondition_rows =
        drop_next (action_row t k) (paired ms vs) (row ACTION a.cost) (step_rows a ++ after) (rows_at t ms vs R k h)
        ∙ append_assoc (condition_rows a.precondition) (concat_map effect_rows a.effects) after

    pub precondition_read : (σ : Facts)
        → evaluate_at σ begin ms vs at ≡ read_as σ a.precondition (at + length (condition_rows a.precondition))
    precondition_read σ =
        condition_at σ ms vs at a.precondition (concat_map effect_rows a.effects ++ after) precondition_rows
        (effects_stop in_condition refl a.effects (tail_rows (others t ms vs R k h) t.preferences) (tail_stops in_condition kind_past refl (others t ms vs R k h) t.preferences))

    pub effects_there : EffectsAt ms vs (at + length (condition_rows a.precondition)) a
    effects_there = record {
      facts = t.facts;
      few = R.few_facts;
      below = effects_below t R.formed k h;
      rest = after;
      spelled = drop_after at (paired ms vs) (condition_rows a.precondition) (concat_map effect_rows a.effects ++ after) precondition_rows;
      stops = tail_stops in_effects kind_past_effects refl (others t ms vs R k h) t.preferences;
    }

-- The action that row i opens

module _ (ms vs : List ℕ) (i : ℕ) (t : Task) (k : ℕ) (A : ActionAt ms vs i t k) where
  pub cost_there : i < length ms → value_at vs i ≡ (action_at t k).cost
  cost_there within =
      ap (value_at vs) A.begins ∙ cost_read t ms vs A.spells k A.known (subst (λ (n : ℕ). n < length ms) A.begins within)

  -- after its precondition was read, as e, come its effects
  module _ (σ : Facts) (e : Evaluated) (read : e ≡ evaluate_at σ begin ms vs (i + 1)) where
    whole : e ≡ read_as σ (action_at t k).precondition (at t ms vs A.spells k A.known + length (condition_rows (action_at t k).precondition))
    whole = read ∙ ap (λ (n : ℕ). evaluate_at σ begin ms vs (n + 1)) A.begins ∙ precondition_read t ms vs A.spells k A.known σ

    pub applying : e.holds ≡ applies t σ k
    applying =
        ap (λ (x : Evaluated). x.holds) whole
        ∙ ap (λ (b : Bool). b && is_true σ (action_at t k).precondition) (sym (lt-ltb k (length t.actions) A.known))

    pub looked_at_lem : e.looked ≡ looked_at σ (action_at t k).precondition
    looked_at_lem = ap (λ (x : Evaluated). x.looked) whole

    pub its_effects : EffectsAt ms vs e.next (action_at t k)
    its_effects = subst (λ (x : Evaluated). EffectsAt ms vs x.next (action_at t k)) (sym whole) (effects_there t ms vs A.spells k A.known)
