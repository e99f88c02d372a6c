-- In each state no more literals are looked at than the task has rows.
use mathlib.Core.Path.{◌≡◌}
use mathlib.Core.Bool.{Bool, true, false, cond}
use mathlib.Core.List.{List, [], ◌∷◌, ◌++◌, map}
use Prim.Native.Nat.{ℕ, zero, suc, ◌+◌, ◌*◌, ◌≤◌}
use native.Mathlib.Nat.{suc-mul}
use native.Mathlib.Omega.{arith}
use lib.ListN.{length, length-append, length-map, get_or}
use Rattle.lists.specs.Lists.{any, concat_map}
use Rattle.task.specs.Marks.{ADD, DELETE, GOAL, START, SECOND}
use Rattle.meaning.specs.Task.{Clause, Condition, Effect, Action, Preference, Task}
use Rattle.task.specs.TaskRows.{Row, row, literal_row, condition_rows, effect_rows, action_rows, preference_rows, task_rows}
use Rattle.meaning.specs.Task.{two_sided}
use Rattle.task.specs.TaskRows.{kind_mark, steps_rows}
use Rattle.meaning.specs.Meaning.{State, literal_true, opening, after, no_action, action_at, applies}
use Rattle.meaning.specs.Literals.{looked_clause, looked_at, looked_preference, looked_preferences, looked_effects, looked_from, literals}

module _ (s : State) where
  clause_few : (ls : Clause) → looked_clause s ls ≤ length (map literal_row ls)
  clause_few [] = omega arith
  clause_few (l ∷ ls) = go (literal_true s l) (clause_few ls)
    where
      go : (b : Bool) → looked_clause s ls ≤ length (map literal_row ls) → suc (cond b 0 (looked_clause s ls)) ≤ suc (length (map literal_row ls))
      go true h = omega arith
      go false h = omega arith

  pub condition_few : (c : Condition) → looked_at s c ≤ length (condition_rows c)
  condition_few [] = omega arith
  condition_few (ls ∷ c) = rw (length-append (map literal_row ls) (condition_rows c)) (go (any (literal_true s) ls) (clause_few ls) (condition_few c))
    where
      go : (b : Bool) → looked_clause s ls ≤ length (map literal_row ls) → looked_at s c ≤ length (condition_rows c)
          → looked_clause s ls + cond b (looked_at s c) 0 ≤ suc (length (map literal_row ls) + length (condition_rows c))
      go true h k = omega arith
      go false h k = omega arith

  preference_few : (q : Preference) → looked_preference s q ≤ length (preference_rows q)
  preference_few q = go (two_sided q.kind) (condition_few q.first) (condition_few q.second)
    where
      go : (b : Bool) → looked_at s q.first ≤ length (condition_rows q.first) → looked_at s q.second ≤ length (condition_rows q.second)
          → looked_at s q.first + cond b (looked_at s q.second) 0
          ≤ length (row (kind_mark q.kind) q.weight ∷ steps_rows q.kind ++ (condition_rows q.first ++ cond b (row SECOND 0 ∷ condition_rows q.second) []))
      go true h k =
          omega (
            arith,
            length-append (row (kind_mark q.kind) q.weight ∷ steps_rows q.kind) (condition_rows q.first ++ (row SECOND 0 ∷ condition_rows q.second)),
            length-append (condition_rows q.first) (row SECOND 0 ∷ condition_rows q.second),
          )
      go false h k =
          omega (
            arith,
            length-append (row (kind_mark q.kind) q.weight ∷ steps_rows q.kind) (condition_rows q.first ++ []),
            length-append (condition_rows q.first) [],
          )

  preferences_few : (qs : List Preference) → looked_preferences s qs ≤ length (concat_map preference_rows qs)
  preferences_few [] = omega arith
  preferences_few (q ∷ qs) =
      omega (arith, preference_few q, preferences_few qs, length-append (preference_rows q) (concat_map preference_rows qs))

  effect_few : (e : Effect) → looked_at s e.condition ≤ length (effect_rows e)
  effect_few e =
      omega (
        arith,
        condition_few e.condition,
        length-append (condition_rows e.condition ++ map (row ADD) e.adds) (map (row DELETE) e.deletes),
        length-append (condition_rows e.condition) (map (row ADD) e.adds),
      )

  effects_few : (es : List Effect) → looked_effects s es ≤ length (concat_map effect_rows es)
  effects_few [] = omega arith
  effects_few (e ∷ es) = omega (arith, effect_few e, effects_few es, length-append (effect_rows e) (concat_map effect_rows es))

  action_few : (a : Action) → looked_at s a.precondition + looked_effects s a.effects ≤ length (action_rows a)
  action_few a =
      omega (
        arith,
        condition_few a.precondition,
        effects_few a.effects,
        length-append (condition_rows a.precondition) (concat_map effect_rows a.effects),
      )

  -- of one action; there is nothing to look at where there is none
  actions_few : (more : List Action) (k : ℕ)
      → looked_at s (get_or more k no_action).precondition + looked_effects s (get_or more k no_action).effects ≤ length (concat_map action_rows more)
  actions_few [] k = omega arith
  actions_few (a ∷ more) zero = omega (arith, action_few a, length-append (action_rows a) (concat_map action_rows more))
  actions_few (a ∷ more) (suc k) = omega (arith, actions_few more k, length-append (action_rows a) (concat_map action_rows more))

module _ (t : Task) where
  all_rows : length (task_rows t)
      ≡ length t.start + suc (length (condition_rows t.goal)) + length (concat_map action_rows t.actions) + length (concat_map preference_rows t.preferences)
  all_rows =
      let opening : List Row = map (row START) t.start in
      let goal : List Row = row GOAL 0 ∷ condition_rows t.goal in
      let actions : List Row = concat_map action_rows t.actions in
      omega (
        arith,
        length-append (opening ++ goal ++ actions) (concat_map preference_rows t.preferences),
        length-append (opening ++ goal) actions,
        length-append opening goal,
        length-map t.start (row START),
      )

  from_few : (s : State) (p : List ℕ) → looked_from t s p ≤ (length p + 1) * length (task_rows t)
  from_few s [] = omega (arith, all_rows, preferences_few s t.preferences, condition_few s t.goal)
  from_few s (k ∷ ks) =
      let steps : suc (length ks) + 1 ≡ suc (length ks + 1) = omega arith in
      rw steps
      (go (applies t s k) (length ks + 1) (length (task_rows t)) (suc-mul (length ks + 1) (length (task_rows t)))
      (omega (arith, all_rows, preferences_few s t.preferences, actions_few s t.actions k)) (from_few (after s (action_at t k)) ks))
    where
      go : (b : Bool) (n N : ℕ) → suc n * N ≡ n * N + N
          → looked_preferences s t.preferences + (looked_at s (action_at t k).precondition + looked_effects s (action_at t k).effects) ≤ N
          → looked_from t (after s (action_at t k)) ks ≤ n * N
          → looked_preferences s t.preferences + looked_at s (action_at t k).precondition
          + cond b (looked_effects s (action_at t k).effects + looked_from t (after s (action_at t k)) ks) 0
          ≤ suc n * N
      go true n N e h rest = omega (arith, e, h, rest)
      go false n N e h rest = omega (arith, e, h, rest)

  pub few_literals : (p : List ℕ) → literals t p ≤ (length p + 1) * length (task_rows t)
  unfolding literals
  few_literals p = from_few (opening t) p
