-- The conditions of the new effects have clauses of one literal, and rows can spell the new task where they can spell its source.
use mathlib.Core.Path.{◌≡◌}
use mathlib.Core.Bool.{true}
use mathlib.Core.List.{List, map}
use Prim.Native.Nat.{ℕ}
use lib.Dec.{T, ltb}
use lib.ListN.{length, length-map}
use Rattle.lists.specs.Lists.{singleton, all, concat_map}
use Rattle.meaning.specs.Task.{Literal, Effect, Action, Task, well_formed}
use Rattle.task.specs.TaskRows.{task_rows}
use Rattle.task.specs.File.{sizes_of, with_rows}
use Rattle.task.specs.Spelling.{spellable}
use Rattle.lists.proofs.Tests.{tests, and_both, all_map, all-concat, all_implies}
use Rattle.task.proofs.Pieces.{literals_ok, clause_ok, condition_ok, effect_ok, action_ok, task_ok, task_ok_lem, ok-well_formed, ok-spellable}
use Rattle.singling.specs.Singled.{choices, chosen, singled_effect, singled_action, singled, is_single, single_effects}
use Rattle.singling.proofs.Lists.{all_mapped, all_joined}
use Rattle.singling.proofs.Choices.{choices_pass}

-- Clauses of one literal

pub singled_single : (t : Task) → T (all single_effects (singled t).actions)
unfolding singled
singled_single t =
    all_map single_effects singled_action
    (λ a. all-concat (λ (e : Effect). all is_single e.condition) singled_effect
    (λ e. all_map (λ (e : Effect). all is_single e.condition) (chosen e) (λ ls. all_map is_single singleton (λ l. tt) ls) (choices e.condition))
    a.effects)
    t.actions

-- What rows ask

module _ (F : ℕ) where
  chosen-ok : (e : Effect) → T (effect_ok F e) → (ls : List Literal) → T (literals_ok F ls) → T (effect_ok F (chosen e ls))
  chosen-ok e t ls h =
      let c : T (condition_ok F (map singleton ls)) =
      all_mapped (clause_ok F) (λ (l : Literal). ltb l.fact F) singleton (λ l g. and_both (ltb l.fact F) true g tt) ls h in
      search tests

  effect-ok : (e : Effect) → T (effect_ok F e) → T (all (effect_ok F) (singled_effect e))
  effect-ok e t =
      all_mapped (effect_ok F) (literals_ok F) (chosen e) (chosen-ok e t) (choices e.condition)
      (choices_pass (λ (l : Literal). ltb l.fact F) e.condition
      (all_implies (clause_ok F) (literals_ok F) (λ c h. search tests) e.condition (search tests)))

  action_ok_lem : (a : Action) → T (action_ok F a) → T (action_ok F (singled_action a))
  action_ok_lem a t =
      let es : T (all (effect_ok F) (concat_map singled_effect a.effects)) =
      all_joined (effect_ok F) (effect_ok F) singled_effect effect-ok a.effects (search tests) in
      search tests

singled-ok : (t : Task) → T (task_ok t.facts t) → T (task_ok (singled t).facts (singled t))
unfolding singled
singled-ok t ok =
    let acts : T (all (action_ok t.facts) (map singled_action t.actions)) =
    all_mapped (action_ok t.facts) (action_ok t.facts) singled_action (action_ok_lem t.facts) t.actions (search tests) in
    search tests

pub singled_formed : (t : Task) → T (well_formed t) → T (spellable t) → T (well_formed (singled t))
singled_formed t w s = ok-well_formed (singled t) (singled-ok t (task_ok_lem t w s))

pub singled-spellable : (t : Task) → T (well_formed t) → T (spellable t) → T (spellable (singled t))
singled-spellable t w s = ok-spellable (singled t) (singled-ok t (task_ok_lem t w s))

pub singled_sizes : (t : Task) → sizes_of (singled t) ≡ with_rows (sizes_of t) (length (task_rows (singled t)))
unfolding singled
singled_sizes t = λ i. record {
  facts = t.facts;
  actions = length-map t.actions singled_action i;
  preferences = length t.preferences;
  rows = length (task_rows (singled t));
}
