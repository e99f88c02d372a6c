-- Wrong sums and wrong states left, each refuted on the gate: the claim fails for it.
use mathlib.Core.Path.{◌≡◌, refl}
use mathlib.Core.Bool.{Bool, true, not, cond, ◌&&◌}
use mathlib.Core.List.{List, [], ◌∷◌, ◌++◌, map}
use Prim.Native.Nat.{ℕ, ◌+◌}
use lib.Dec.{ltb, leb}
use lib.ListN.{length}
use Rattle.lists.specs.Lists.{singleton, range, sum}
use Rattle.meaning.specs.Task.{Task}
use Rattle.meaning.specs.Meaning.{State, opening, after, action_at, preference_at, runs, final, solves, cost, met, seen, is_met}
use Rattle.classical.specs.Translation.{fact_s, fact_b, fact_c, translated}
use Rattle.classical.specs.Claim.{source_part}
use Rattle.losses.specs.Losses.{broken, is_lost, lost_in, source_state}
use Rattle.losses.proofs.Examples.{gate}

abbrev c : Task
c = translated gate

-- the weights of the rules that a test says are lost; `of` says whose weight counts for rule k
abbrev sum_by : (State → ℕ → Bool) → (ℕ → ℕ) → State → ℕ
sum_by lost of τ = sum (map (λ (k : ℕ). cond (lost τ k) (preference_at gate (of k)).weight 0) (range 0 (length gate.preferences)))

-- a solution costs less than its cost so far and the sum after its beginning xs
abbrev Overprices : (State → ℕ) → List ℕ → List ℕ → Type 0
Overprices lost xs ys = (solves c (xs ++ ys) ≡ true) × (ltb (cost c (xs ++ ys)) (cost c xs + lost (final c xs)) ≡ true)

-- rule k is called lost after xs, and a continuation meets it
abbrev Mended : (State → ℕ → Bool) → ℕ → List ℕ → List ℕ → Type 0
Mended lost k xs ys = (runs c (opening c) (xs ++ ys) ≡ true) × (lost (final c xs) k ≡ true) × (is_met gate (source_part gate (xs ++ ys)) (preference_at gate k) ≡ true)

-- rule k is shown broken after xs and the states left meet it, or the other way round
abbrev Misread : (List ℕ → List State) → ℕ → List ℕ → Type 0
Misread left k xs = broken gate (final c xs) k ≡ met (preference_at gate k).kind (map (seen (preference_at gate k)) (left xs))

-- a closed rule is counted again
closed_counted : Overprices (sum_by (broken gate) (λ k. k)) (0 ∷ 1 ∷ 0 ∷ 2 ∷ 3 ∷ 5 ∷ 7 ∷ 9 ∷ 10 ∷ []) []
unfolding translated
closed_counted = (refl, refl)

-- the next rule's weight is counted
next_weight : Overprices (sum_by (is_lost gate) (λ k. k + 1)) (0 ∷ 2 ∷ []) (3 ∷ 5 ∷ 6 ∷ 9 ∷ 10 ∷ [])
unfolding translated
next_weight = (refl, refl)

-- sometime is called lost before it is met
sometime_counted : Mended (λ τ k. not (τ (fact_s 2 k))) 3 [] (2 ∷ [])
unfolding translated
sometime_counted = (refl, refl, refl)

-- at-most-once is called lost by B alone, once its first run is over
once_by_b : Mended (λ τ k. τ (fact_b 2 k)) 1 (0 ∷ 1 ∷ 1 ∷ []) []
unfolding translated
once_by_b = (refl, refl, refl)

-- the states left, by another account
abbrev left_by : (State → ℕ → List State) → State → List ℕ → List State
left_by here τ [] = []
left_by here τ (j ∷ js) = here τ j ++ left_by here (after τ (action_at c j)) js

-- the state that end leaves is left out
end_forgotten : Misread (left_by (λ τ j. cond (ltb j 3) (source_state gate τ ∷ []) []) (opening c)) 0 (2 ∷ 3 ∷ [])
unfolding translated
end_forgotten = refl

-- the states reached stand for those left
reached_states : Misread (left_by (λ τ j. cond (leb j 3) (source_state gate (after τ (action_at c j)) ∷ []) []) (opening c)) 0 (2 ∷ [])
unfolding translated
reached_states = refl

-- what is lost, summed over the states along xs instead of the state after it
abbrev lost_along : State → List ℕ → ℕ
lost_along τ [] = lost_in gate τ
lost_along τ (j ∷ js) = lost_in gate τ + lost_along (after τ (action_at c j)) js

-- a rule is counted in each state since it was broken, and a solution costs less
over_states : let xs : List ℕ = 0 ∷ 1 ∷ 0 ∷ 2 ∷ 3 ∷ [] in
    let all : List ℕ = xs ++ (5 ∷ 7 ∷ 9 ∷ 10 ∷ []) in
    (solves c all ≡ true) × (ltb (cost c all) (cost c xs + lost_along (opening c) xs) ≡ true)
unfolding translated
over_states = (refl, refl)

-- the gate with one rule, which is hard and has a weight; no file has such a rule, whose weight is 0
abbrev strict : Task
strict =
    record {
      facts = gate.facts;
      start = gate.start;
      goal = gate.goal;
      actions = gate.actions;
      preferences =
          singleton (record { kind = (preference_at gate 0).kind; hard = true; weight = 1; first = (preference_at gate 0).first; second = [] });
    }

-- it is broken, isn't closed and isn't lost: a sum of all broken rules that aren't closed is another
hard_counted : let τ : State = final (translated strict) (2 ∷ 3 ∷ []) in
    (lost_in strict τ ≡ 0) × (cond (broken strict τ 0 && not (τ (fact_c 2 0))) (preference_at strict 0).weight 0 ≡ 1)
unfolding translated
hard_counted = (refl, refl)
