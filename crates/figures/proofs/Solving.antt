-- The figures are over the plans that solve, by document 01's meanings, and how large they can get.
use mathlib.Core.Path.{◌≡◌, refl, ap, ◌∙◌, fun_ext}
use mathlib.Core.Bool.{Bool, true, false, cond, ◌&&◌}
use mathlib.Core.List.{List, [], ◌∷◌, ◌++◌, map}
use Prim.Native.Nat.{ℕ, zero, suc, ◌+◌, ◌*◌, ◌≤◌, ◌<◌}
use native.Mathlib.Nat.{suc-mul, mul-le-mul_right}
use native.Mathlib.Omega.{arith}
use lib.Dec.{T, leb, leb→le, le→leb, eqb→eq}
use lib.ListN.{length, get_or, length-map}
use Rattle.lists.specs.Lists.{all, filter, sum}
use Rattle.meaning.specs.Task.{Action, Preference, Task}
use Rattle.task.specs.File.{Sizes, task_of}
use Rattle.task.specs.Spelling.{weight_allowed, action_spellable, preference_spellable, spellable}
use Rattle.task.specs.Check.{check, accepted}
use Rattle.task.specs.Limits.{MAX_AMOUNT}
use Rattle.meaning.specs.Meaning.{no_action, opening, runs, final, is_true, solves, action_at, cost, is_met, keeps_rules, missed_weight, metric, no_preference, preference_at}
use Rattle.meaning.specs.Verdict.{met_set, verdict_by, verdict}
use Rattle.lists.proofs.Tests.{tests, all_map, all_implies}
use Rattle.lists.proofs.Entries.{get_d_map}
use Rattle.task.proofs.Checking.{within}
use Rattle.task.proofs.Spelled.{Spelling, accepted_spelling}
use Rattle.figures.specs.Figures.{Solution, solution, solutions, meeting, metrics}
use Rattle.figures.proofs.Sums.{sum_at_most}

-- its metric, and the preferences it meets
abbrev pub solution_of : Task → List ℕ → Solution
solution_of t p = record { metric = metric t p; met = met_set t p }

pub solutions_are : (t : Task) (ps : List (List ℕ)) → solutions (map (verdict t) ps) ≡ map (solution_of t) (filter (solves t) ps)
unfolding verdict
solutions_are t [] = refl
solutions_are t (p ∷ ps) = go (runs t (opening t) p) (is_true (final t p) t.goal) (keeps_rules t p) (solutions_are t ps)
  where
    go : (a b c : Bool) → solutions (map (verdict t) ps) ≡ map (solution_of t) (filter (solves t) ps)
        → solution (verdict_by t p a b c) ++ solutions (map (verdict t) ps)
        ≡ map (solution_of t) (cond (a && b && c) (p ∷ filter (solves t) ps) (filter (solves t) ps))
    go true true true e = ap (λ (l : List Solution). solution_of t p ∷ l) e
    go true true false e = e
    go true false c e = e
    go false b c e = e

-- so the metrics are those of the plans that solve
pub metrics_are : (t : Task) (ps : List (List ℕ)) → metrics (solutions (map (verdict t) ps)) ≡ map (metric t) (filter (solves t) ps)
metrics_are t ps = ap metrics (solutions_are t ps) ∙ go (filter (solves t) ps)
  where
    go : (qs : List (List ℕ)) → metrics (map (solution_of t) qs) ≡ map (metric t) qs
    go [] = refl
    go (q ∷ qs) = ap (λ (l : List ℕ). metric t q ∷ l) (go qs)

filter_map : {A B : Type 0} (p : B → Bool) (g : A → B) (xs : List A) → filter p (map g xs) ≡ map g (filter (λ (x : A). p (g x)) xs)
filter_map p g [] = refl
filter_map {A} {B} p g (x ∷ xs) = go (p (g x)) (filter_map p g xs)
  where
    go : (b : Bool) → filter p (map g xs) ≡ map g (filter (λ (x : A). p (g x)) xs)
        → cond b (g x ∷ filter p (map g xs)) (filter p (map g xs)) ≡ map g (cond b (x ∷ filter (λ (x : A). p (g x)) xs) (filter (λ (x : A). p (g x)) xs))
    go true e = ap (λ (l : List B). g x ∷ l) e
    go false e = e

-- how many meet preference k, of those that solve
pub meeting_are : (t : Task) (ps : List (List ℕ)) (k : ℕ) → k < length t.preferences
    → meeting (solutions (map (verdict t) ps)) k ≡ length (filter (λ (p : List ℕ). is_met t p (preference_at t k)) (filter (solves t) ps))
meeting_are t ps k h =
    ap (λ (xs : List Solution). meeting xs k) (solutions_are t ps)
    ∙ ap length (filter_map (λ (x : Solution). x.met k) (solution_of t) (filter (solves t) ps))
    ∙ length-map (filter (λ (p : List ℕ). met_set t p k) (filter (solves t) ps)) (solution_of t)
    ∙ ap (λ (m : List ℕ → Bool). length (filter m (filter (solves t) ps))) (fun_ext (λ p. get_d_map (is_met t p) t.preferences k no_preference false h))

-- Where no cost and no weight is over L

abbrev at_most : ℕ → ℕ → Bool
at_most L n = leb n L

pub record Limited (t : Task) (L : ℕ) : Type 0 where
  pub costs : T (all (λ (a : Action). at_most L a.cost) t.actions)
  pub weights : T (all (λ (q : Preference). at_most L q.weight) t.preferences)
  pub few : length t.preferences ≤ 16

-- a hard weight is 0
weight_limited : (hard : Bool) (w : ℕ) → T (weight_allowed hard w) → T (leb w MAX_AMOUNT)
weight_limited true w h = le→leb w MAX_AMOUNT (omega (arith, eqb→eq w 0 h))
weight_limited false w h = h

pub accepted_limited : (b : List ℕ) (z : Sizes) → check b ≡ accepted z → Limited (task_of b) MAX_AMOUNT
accepted_limited b z h =
    let s : Spelling b z = accepted_spelling b z h in
    let ok : T (spellable (task_of b)) = s.spelling in
    record {
      costs = all_implies action_spellable (λ (a : Action). leb a.cost MAX_AMOUNT) (λ a h. search tests) (task_of b).actions (search tests);
      weights = all_implies preference_spellable (λ (q : Preference). leb q.weight MAX_AMOUNT)
          (λ q h. weight_limited q.hard q.weight (search tests depth 10)) (task_of b).preferences (search tests);
      few = omega (arith, (within z s.allowed).4, ap (λ (x : Sizes). x.preferences) s.sized);
    }

module _ (t : Task) (L : ℕ) (lim : Limited t L) where
  cost_at_lem : (l : List Action) → T (all (λ (a : Action). at_most L a.cost) l) → (k : ℕ) → T (at_most L (get_or l k no_action).cost)
  cost_at_lem [] h k = le→leb 0 L (omega arith)
  cost_at_lem (a ∷ l) h zero = search tests
  cost_at_lem (a ∷ l) h (suc k) = cost_at_lem l (search tests) k

  cost_most : (p : List ℕ) → cost t p ≤ length p * L
  cost_most p =
      let prices : List ℕ = map (λ (k : ℕ). (action_at t k).cost) p in
      let n : length prices ≡ length p = length-map p (λ (k : ℕ). (action_at t k).cost) in
      rw (← n) (sum_at_most L prices (all_map (at_most L) (λ (k : ℕ). (action_at t k).cost) (cost_at_lem t.actions lim.costs) p))

  missed_most : (p : List ℕ) (qs : List Preference) → T (all (λ (q : Preference). at_most L q.weight) qs)
      → sum (map (λ (q : Preference). cond (is_met t p q) 0 q.weight) qs) ≤ length qs * L
  missed_most p [] h = omega arith
  missed_most p (q ∷ qs) h = go (is_met t p q) (leb→le q.weight L (search tests)) (missed_most p qs (search tests))
    where
      go : (b : Bool) → q.weight ≤ L → sum (map (λ (q : Preference). cond (is_met t p q) 0 q.weight) qs) ≤ length qs * L
          → cond b 0 q.weight + sum (map (λ (q : Preference). cond (is_met t p q) 0 q.weight) qs) ≤ suc (length qs) * L
      go true w h = omega (arith, suc-mul (length qs) L)
      go false w h = omega (arith, suc-mul (length qs) L)

  pub metric_most : (p : List ℕ) → length p ≤ 2048 → metric t p ≤ 2064 * L
  metric_most p short =
      let c : cost t p ≤ length p * L = cost_most p in
      let m : missed_weight t p ≤ length t.preferences * L = missed_most p t.preferences lim.weights in
      let c' : length p * L ≤ 2048 * L = mul-le-mul_right L short in
      let m' : length t.preferences * L ≤ 16 * L = mul-le-mul_right L lim.few in
      omega arith

  metrics_most : (ps : List (List ℕ)) → T (all (λ (p : List ℕ). leb (length p) 2048) ps)
      → sum (metrics (map (solution_of t) (filter (solves t) ps))) ≤ length ps * (2064 * L)
  metrics_most [] h = omega arith
  metrics_most (p ∷ ps) h = go (solves t p) (metric_most p (leb→le (length p) 2048 (search tests))) (metrics_most ps (search tests))
    where
      go : (b : Bool) → metric t p ≤ 2064 * L → sum (metrics (map (solution_of t) (filter (solves t) ps))) ≤ length ps * (2064 * L)
          → sum (metrics (map (solution_of t) (cond b (p ∷ filter (solves t) ps) (filter (solves t) ps)))) ≤ suc (length ps) * (2064 * L)
      go true m h = omega (arith, suc-mul (length ps) (2064 * L))
      go false m h = omega (arith, suc-mul (length ps) (2064 * L))

  -- 64 × (2,048 + 16) × L
  pub total_most : (ps : List (List ℕ)) → length ps ≤ 64 → T (all (λ (p : List ℕ). leb (length p) 2048) ps)
      → sum (metrics (solutions (map (verdict t) ps))) ≤ 132096 * L
  total_most ps n h =
      let each : length ps * (2064 * L) ≤ 64 * (2064 * L) = mul-le-mul_right (2064 * L) n in
      rw (solutions_are t ps) (omega (arith, metrics_most ps h))

-- for every L of 32 bits
pub total_fits : (L n : ℕ) → L < 4294967296 → n ≤ 132096 * L → n < 18446744073709551616
total_fits L n l h = omega arith
