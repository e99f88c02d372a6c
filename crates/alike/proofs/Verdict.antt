-- Two tasks that mean the same give every plan the same verdict, cost, metric and utility, and it meets the same preferences.
use mathlib.Core.Path.{◌≡◌, refl, ap, ap₂, ◌∙◌, fun_ext}
use mathlib.Core.Bool.{Bool, false, not, cond, ◌&&◌, ◌||◌}
use mathlib.Core.List.{List, [], ◌∷◌, map}
use Prim.Native.Nat.{ℕ, suc, ◌+◌}
use lib.Dec.{ltb}
use lib.IntN.{pos, ◌-ℤ◌}
use lib.ListN.{get_or}
use Rattle.lists.specs.Lists.{sum, last_or}
use Rattle.meaning.specs.Task.{Preference, Task}
use Rattle.meaning.specs.Meaning.{State, is_true, opening, after, no_action, action_at, applies, runs, reached, final, cost, seen, met, is_met, is_kept, keeps_rules, solves}
use Rattle.meaning.specs.Meaning.{missed_weight, met_weight, metric, utility}
use Rattle.meaning.specs.Verdict.{solved, stopped, goal_missed, rule_missed, steps_applied, met_set, missed_rule, verdict}
use Rattle.alike.specs.Alike.{AlikeAction, AlikePreference, Alike, JudgedAlike}
use Rattle.alike.proofs.Each.{each_length, each_at, each_map, each_all, each_first}

module _ (s t : Task) (e : Alike s t) where
  action_alike : (k : ℕ) → AlikeAction (action_at s k) (action_at t k)
  action_alike k =
      each_at AlikeAction no_action (record { cost = refl; precondition = λ σ. refl; leads = λ σ. refl }) s.actions t.actions k e.actions

  same_applies : (σ : State) (k : ℕ) → applies s σ k ≡ applies t σ k
  same_applies σ k =
      ap₂ ◌&&◌ (ap (ltb k) (each_length AlikeAction s.actions t.actions e.actions)) ((action_alike k).precondition σ)

  same_runs : (p : List ℕ) (σ : State) → runs s σ p ≡ runs t σ p
  same_runs [] σ = refl
  same_runs (k ∷ ks) σ =
      ap₂ ◌&&◌ (same_applies σ k)
      (same_runs ks (after σ (action_at s k)) ∙ ap (λ (τ : State). runs t τ ks) ((action_alike k).leads σ))

  same_steps : (p : List ℕ) (σ : State) → steps_applied s σ p ≡ steps_applied t σ p
  same_steps [] σ = refl
  same_steps (k ∷ ks) σ =
      ap₂ (λ (b : Bool) (n : ℕ). cond b (suc n) 0) (same_applies σ k)
      (same_steps ks (after σ (action_at s k)) ∙ ap (λ (τ : State). steps_applied t τ ks) ((action_alike k).leads σ))

  same_reached : (p : List ℕ) (σ : State) → reached s σ p ≡ reached t σ p
  same_reached [] σ = refl
  same_reached (k ∷ ks) σ =
      ap₂ ◌∷◌ ((action_alike k).leads σ)
      (same_reached ks (after σ (action_at s k)) ∙ ap (λ (τ : State). reached t τ ks) ((action_alike k).leads σ))

  module _ (p : List ℕ) where
    from_opening : reached s (opening s) p ≡ reached t (opening t) p
    from_opening = same_reached p (opening s) ∙ ap (λ (σ : State). reached t σ p) e.start

    same_final : final s p ≡ final t p
    same_final = λ i. last_or (e.start i) (from_opening i)

    same_goal : is_true (final s p) s.goal ≡ is_true (final t p) t.goal
    same_goal = e.goal (final s p) ∙ ap (λ (σ : State). is_true σ t.goal) same_final

    same_cost : cost s p ≡ cost t p
    same_cost = ap (λ (f : ℕ → ℕ). sum (map f p)) (fun_ext (λ k. (action_alike k).cost))

    same_met : (q r : Preference) → AlikePreference q r → is_met s p q ≡ is_met t p r
    same_met q r a =
        let sees : seen q ≡ seen r = fun_ext (λ σ. λ i. record { φ = a.first σ i; ψ = a.second σ i }) in
        λ i. met (a.kind i) (map (sees i) (e.start i ∷ from_opening i))

    same_missed : missed_weight s p ≡ missed_weight t p
    same_missed =
        ap sum (each_map AlikePreference
        (λ (q : Preference). cond (is_met s p q) 0 q.weight)
        (λ (r : Preference). cond (is_met t p r) 0 r.weight)
        (λ q r a. λ i. cond (same_met q r a i) 0 (a.weight i))
        s.preferences t.preferences e.preferences)

    same_met_weight : met_weight s p ≡ met_weight t p
    same_met_weight =
        ap sum (each_map AlikePreference
        (λ (q : Preference). cond (is_met s p q) q.weight 0)
        (λ (r : Preference). cond (is_met t p r) r.weight 0)
        (λ q r a. λ i. cond (same_met q r a i) (a.weight i) 0)
        s.preferences t.preferences e.preferences)

    same_met_set : met_set s p ≡ met_set t p
    same_met_set =
        let outcomes : map (is_met s p) s.preferences ≡ map (is_met t p) t.preferences =
        each_map AlikePreference (is_met s p) (is_met t p) same_met s.preferences t.preferences e.preferences in
        λ i k. get_or (outcomes i) k false

    same_metric : metric s p ≡ metric t p
    same_metric = λ i. same_cost i + same_missed i

    same_utility : utility s p ≡ utility t p
    same_utility = λ i. pos (same_met_weight i) -ℤ pos (same_cost i)

    same_kept : (q r : Preference) → AlikePreference q r → is_kept s p q ≡ is_kept t p r
    same_kept q r a = λ i. not (a.hard i) || same_met q r a i

    same_rules : keeps_rules s p ≡ keeps_rules t p
    same_rules = each_all AlikePreference (is_kept s p) (is_kept t p) same_kept s.preferences t.preferences e.preferences

    same_missed_rule : missed_rule s p ≡ missed_rule t p
    same_missed_rule = each_first AlikePreference (is_kept s p) (is_kept t p) same_kept s.preferences t.preferences e.preferences

    same_running : runs s (opening s) p ≡ runs t (opening t) p
    same_running = same_runs p (opening s) ∙ ap (λ (σ : State). runs t σ p) e.start

    pub same_solves : solves s p ≡ solves t p
    same_solves = λ i. same_running i && same_goal i && same_rules i

    same_verdict : verdict s p ≡ verdict t p
    unfolding verdict
    same_verdict =
        let steps : steps_applied s (opening s) p ≡ steps_applied t (opening t) p =
        same_steps p (opening s) ∙ ap (λ (σ : State). steps_applied t σ p) e.start in
        λ i. cond (same_running i)
        (cond (same_goal i)
        (cond (same_rules i) (solved (same_cost i) (same_metric i) (same_utility i) (same_met_set i)) (rule_missed (same_missed_rule i)))
        goal_missed)
        (stopped (steps i))

    pub judged_alike : JudgedAlike s t p
    judged_alike =
        record { verdicts = same_verdict; costs = same_cost; metrics = same_metric; utilities = same_utility; met = same_met_set }
