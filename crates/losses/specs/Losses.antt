-- What is already lost after a beginning of a translated run: request 13. A rule is a preference of the source task, by its number.
use Rattle.std.specs.Prelude.{◌≡◌, Bool, true, false, not, cond, ◌&&◌, List, [], ◌∷◌, ◌++◌, map, ℕ, ◌+◌, ◌<◌, ◌≤◌, T, ltb, leb, length}
use Rattle.lists.specs.Lists.{range, sum}
use Rattle.meaning.specs.Task.{Kind, always, sometime, at_end, at_most_once, sometime_before, sometime_after, within, always_within, Task}
use Rattle.meaning.specs.Meaning.{State, opening, after, action_at, preference_at, runs, final, solves, cost, met, seen, is_met}
use Rattle.meaning.specs.Verdict.{steps_applied}
use Rattle.classical.specs.Translation.{fact_s, fact_b, fact_c, translated}
use Rattle.classical.specs.Claim.{source_part}

-- the kinds concerned: what misses one is mended by no later state
abbrev pub losable : Kind → Bool
losable always = true
losable sometime = false
losable at_end = false
losable at_most_once = true
losable sometime_before = true
losable sometime_after = false
losable (within t) = false
losable (always_within t) = false

-- S and B of a rule of these kinds show it broken
abbrev pub shows : Kind → Bool → Bool → Bool
shows always S B = B
shows sometime S B = false
shows at_end S B = false
shows at_most_once S B = B && not S
shows sometime_before S B = B
shows sometime_after S B = false
shows (within t) S B = false
shows (always_within t) S B = false

-- In a state of the translated task of s

-- the trackers of rule k show it broken
abbrev pub broken : Task → State → ℕ → Bool
broken s τ k = shows (preference_at s k).kind (τ (fact_s s.facts k)) (τ (fact_b s.facts k))

-- a soft one that isn't closed yet
abbrev pub is_lost : Task → State → ℕ → Bool
is_lost s τ k = not (preference_at s k).hard && broken s τ k && not (τ (fact_c s.facts k))

-- the weight of rule k, where it is lost
abbrev pub lost_of : Task → State → ℕ → ℕ
lost_of s τ k = cond (is_lost s τ k) (preference_at s k).weight 0

-- the lost weights together
abbrev pub lost_in : Task → State → ℕ
lost_in s τ = sum (map (lost_of s τ) (range 0 (length s.preferences)))

-- What is answered for a list of translated actions

-- the lost weights in the state after the list
abbrev pub lost_weight : Task → List ℕ → ℕ
lost_weight s xs = lost_in s (final (translated s) xs)

-- lost has the cost so far and the lost weights; stopped has the first step that doesn't apply, as in judging
pub data Lost : Type 0 where
  lost : ℕ → ℕ → Lost
  stopped : ℕ → Lost

unfoldable pub lost_after : Task → List ℕ → Lost
lost_after s xs =
    let c : Task = translated s in
    cond (runs c (opening c) xs) (lost (cost c xs) (lost_weight s xs)) (stopped (steps_applied c (opening c) xs))

-- The states left so far by source steps and end, in their order

-- a translated state's facts of the source
abbrev pub source_state : Task → State → State
source_state s τ n = ltb n s.facts && τ n

-- those along xs, from τ on; source steps are the range below A, and end is A
abbrev pub left_from : Task → Task → State → List ℕ → List State
left_from s c τ [] = []
left_from s c τ (j ∷ js) =
    let rest : List State = left_from s c (after τ (action_at c j)) js in
    cond (leb j (length s.actions)) (source_state s τ ∷ rest) rest

abbrev pub left : Task → Task → List ℕ → List State
left s c xs = left_from s c (opening c) xs

-- The claim, about a source task s and its translated task c: xs is any beginning of a run, ys any continuation.
-- missed: a lost rule is missed in every continuation;
-- exactly: at each moment a rule of these kinds is shown broken exactly when the states left so far miss it;
-- bound: every solution with this beginning costs at least its cost so far and the lost weights
pub record Losses (s c : Task) : Type 0 where
  pub missed : (xs ys : List ℕ) → T (runs c (opening c) (xs ++ ys)) → (k : ℕ) → k < length s.preferences
      → T (is_lost s (final c xs) k) → is_met s (source_part s (xs ++ ys)) (preference_at s k) ≡ false
  pub exactly : (xs : List ℕ) → T (runs c (opening c) xs) → (k : ℕ) → k < length s.preferences → T (losable (preference_at s k).kind)
      → broken s (final c xs) k ≡ not (met (preference_at s k).kind (map (seen (preference_at s k)) (left s c xs)))
  pub bound : (xs ys : List ℕ) → T (solves c (xs ++ ys)) → cost c xs + lost_in s (final c xs) ≤ cost c (xs ++ ys)
