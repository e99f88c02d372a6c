-- The greatest amounts of a plan on an accepted task: every one is far below 2 ^ 63.
use mathlib.Core.Path.{◌≡◌, refl, ap}
use mathlib.Core.Bool.{Bool, true, false, cond}
use mathlib.Core.List.{List, [], ◌∷◌, map}
use Prim.Native.Nat.{ℕ, ◌+◌, ◌*◌, ◌≤◌}
use native.Mathlib.Omega.{arith}
use lib.Dec.{T, leb→le, eqb→eq}
use lib.IntN.{pos, ◌-ℤ◌}
use lib.ListN.{length}
use Rattle.lists.specs.Lists.{all, range, singleton, sum}
use Rattle.meaning.specs.Task.{always, Preference, Task}
use Rattle.meaning.specs.Meaning.{is_met, cost, met_weight, missed_weight, metric, utility, solves}
use Rattle.task.specs.File.{Sizes, task_of}
use Rattle.task.specs.Check.{accepted, check}
use Rattle.task.specs.Spelling.{weight_allowed, preference_spellable, spellable}
use Rattle.task.specs.Limits.{MAX_AMOUNT, MAX_COST, MAX_PREFERENCES, MAX_STEPS}
use Rattle.lists.proofs.Tests.{tests}
use Rattle.task.proofs.Checking.{within}
use Rattle.task.proofs.Spelled.{accepted_spelling}
use Rattle.task.proofs.Amounts.{cost_bound}

-- Weights

pub weight_bound : (hard : Bool) (w : ℕ) → T (weight_allowed hard w) → w ≤ MAX_AMOUNT
weight_bound true w t = let e : w ≡ 0 = eqb→eq w 0 t in omega arith
weight_bound false w t = leb→le w MAX_AMOUNT t

-- those of some preferences
weights : (part : Preference → ℕ) → ((q : Preference) → part q ≤ q.weight) → (qs : List Preference) → T (all preference_spellable qs)
    → sum (map part qs) ≤ MAX_AMOUNT * length qs
weights part least [] t = omega arith
weights part least (q ∷ qs) t =
    let w : q.weight ≤ MAX_AMOUNT = weight_bound q.hard q.weight (search tests) in
    omega (arith, least q, w, weights part least qs (search tests))

some_or_none : (b : Bool) (w : ℕ) → (cond b w 0 ≤ w) × (cond b 0 w ≤ w)
some_or_none true w = (omega arith, omega arith)
some_or_none false w = (omega arith, omega arith)

-- All amounts

-- of 2,048 steps and 16 preferences, each of the greatest amount: the utility is from - MAX_COST to MAX_WEIGHTS
abbrev pub MAX_WEIGHTS : ℕ
MAX_WEIGHTS = MAX_PREFERENCES * MAX_AMOUNT

pub record Greatest (t : Task) (p : List ℕ) : Type 0 where
  pub spent : cost t p ≤ MAX_COST
  pub met_weights : met_weight t p ≤ MAX_WEIGHTS
  pub paid : metric t p ≤ MAX_COST + MAX_WEIGHTS

pub greatest : (t : Task) → T (spellable t) → length t.preferences ≤ MAX_PREFERENCES → (p : List ℕ) → length p ≤ MAX_STEPS → Greatest t p
greatest t spelling few p short =
    let met_weights : met_weight t p ≤ MAX_AMOUNT * length t.preferences =
    weights (λ (q : Preference). cond (is_met t p q) q.weight 0) (λ q. (some_or_none (is_met t p q) q.weight).0) t.preferences (search tests) in
    let lost : missed_weight t p ≤ MAX_AMOUNT * length t.preferences =
    weights (λ (q : Preference). cond (is_met t p q) 0 q.weight) (λ q. (some_or_none (is_met t p q) q.weight).1) t.preferences (search tests) in
    let spent : cost t p ≤ MAX_AMOUNT * length p = cost_bound t spelling p in
    record { spent = omega arith; met_weights = omega arith; paid = omega arith }

-- on an accepted file
pub of_accepted : (b : List ℕ) (z : Sizes) → check b ≡ accepted z → (p : List ℕ) → length p ≤ MAX_STEPS → Greatest (task_of b) p
of_accepted b z h p short =
    let s = accepted_spelling b z h in
    let few : length (task_of b).preferences ≤ MAX_PREFERENCES = omega (arith, within z s.allowed, ap (λ (y : Sizes). y.preferences) s.sized) in
    greatest (task_of b) s.spelling few p short

-- They are reached, and with them the least utility, by 2,048 steps of an action and 16 missed preferences of the greatest amount

abbrev dearest : Task
dearest =
    record {
      facts = 1;
      start = [];
      goal = [];
      actions = singleton (record { cost = MAX_AMOUNT; precondition = []; effects = [] });
      preferences = map (λ (k : ℕ). record {
        kind = always;
        hard = false;
        weight = MAX_AMOUNT;
        first = singleton (singleton (record { holds = true; fact = 0 }));
        second = [];
      }) (range 0 MAX_PREFERENCES);
    }

abbrev longest : List ℕ
longest = map (λ (k : ℕ). 0) (range 0 MAX_STEPS)

pub reached : (solves dearest longest ≡ true) × (cost dearest longest ≡ MAX_COST) × (metric dearest longest ≡ MAX_COST + MAX_WEIGHTS)
    × (utility dearest longest ≡ pos 0 -ℤ pos MAX_COST)
reached = (refl, refl, refl, refl)
