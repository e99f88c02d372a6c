-- The parts of a well-formed task, by number: every fact that they name is below F.
use Prim.Native.Nat.{ℕ, ◌<◌}
use lib.Dec.{T}
use lib.ListN.{length}
use Rattle.lists.specs.Lists.{all}
use Rattle.meaning.specs.Task.{Task, condition_below, facts_below, effect_below, action_below, preference_below, well_formed}
use Rattle.meaning.specs.Meaning.{action_at, no_action, preference_at, no_preference}
use Rattle.lists.proofs.Tests.{tests, all_at}

abbrev pub action_count : Task → ℕ
action_count t = length t.actions

abbrev pub preference_count : Task → ℕ
preference_count t = length t.preferences

module _ (t : Task) (wf : T (well_formed t)) where
  abbrev F : ℕ
  F = t.facts

  pub start_below : T (facts_below F t.start)
  start_below = search tests

  pub goal_below_lem : T (condition_below F t.goal)
  goal_below_lem = search tests

  pub action_below_lem : (j : ℕ) → j < action_count t → T (action_below F (action_at t j))
  action_below_lem j h = all_at (action_below F) t.actions j no_action (search tests) h

  pub precondition_below : (j : ℕ) → j < action_count t → T (condition_below F (action_at t j).precondition)
  precondition_below j h = let a : T (action_below F (action_at t j)) = action_below_lem j h in search tests

  pub effects_below : (j : ℕ) → j < action_count t → T (all (effect_below F) (action_at t j).effects)
  effects_below j h = let a : T (action_below F (action_at t j)) = action_below_lem j h in search tests

  pub preference_below_lem : (i : ℕ) → i < preference_count t → T (preference_below F (preference_at t i))
  preference_below_lem i h = all_at (preference_below F) t.preferences i no_preference (search tests) h

  pub first_below : (i : ℕ) → i < preference_count t → T (condition_below F (preference_at t i).first)
  first_below i h = let q : T (preference_below F (preference_at t i)) = preference_below_lem i h in search tests

  pub second_below : (i : ℕ) → i < preference_count t → T (condition_below F (preference_at t i).second)
  second_below i h = let q : T (preference_below F (preference_at t i)) = preference_below_lem i h in search tests
