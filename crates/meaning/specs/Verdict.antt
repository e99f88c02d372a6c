-- The verdict on a plan of known steps: document 01, after the table of 'Refused', and request 8.
use Rattle.std.specs.Prelude.{Bool, false, cond, List, [], ◌∷◌, map, ℕ, suc, ℤ, get_or}
use Rattle.lists.specs.Lists.{first_failing}
use Rattle.meaning.specs.Task.{Task}
use Rattle.meaning.specs.Meaning.{State, is_true, opening, after, action_at, applies, runs, final, cost, is_met, is_kept, keeps_rules, metric, utility}

-- solved has cost, metric, utility and the set of the met preferences' numbers; stopped has the first step that doesn't apply, and
-- rule_missed the lowest hard preference that is missed
pub data Verdict : Type 0 where
  solved : ℕ → ℕ → ℤ → (ℕ → Bool) → Verdict
  stopped : ℕ → Verdict
  goal_missed : Verdict
  rule_missed : ℕ → Verdict

-- how many steps apply in turn, from s on
abbrev pub steps_applied : Task → State → List ℕ → ℕ
steps_applied t s [] = 0
steps_applied t s (k ∷ ks) = cond (applies t s k) (suc (steps_applied t (after s (action_at t k)) ks)) 0

-- the met preferences, by number
abbrev pub met_set : Task → List ℕ → ℕ → Bool
met_set t p k = get_or (map (is_met t p) t.preferences) k false

-- the lowest hard preference that is missed, where one is
abbrev pub missed_rule : Task → List ℕ → ℕ
missed_rule t p = first_failing (is_kept t p) t.preferences

-- by whether the steps apply, the goal holds and the hard preferences are met, tried in this order
abbrev pub verdict_by : Task → List ℕ → Bool → Bool → Bool → Verdict
verdict_by t p steps goal rules =
    cond steps
    (cond goal (cond rules (solved (cost t p) (metric t p) (utility t p) (met_set t p)) (rule_missed (missed_rule t p))) goal_missed)
    (stopped (steps_applied t (opening t) p))

unfoldable pub verdict : Task → List ℕ → Verdict
verdict t p = verdict_by t p (runs t (opening t) p) (is_true (final t p) t.goal) (keeps_rules t p)
