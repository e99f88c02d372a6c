-- Wrong searches, each refuted on a small task: what request 11 says of the answer fails for it.
use mathlib.Core.Path.{◌≡◌, refl, ◌∙◌, ap, fun_ext}
use mathlib.Core.Bool.{Bool, true, false, not, cond, ◌&&◌}
use mathlib.Core.List.{List, [], ◌∷◌, ◌++◌}
use mathlib.Core.Option.{Option, none, some}
use Prim.Native.Nat.{ℕ, zero, suc, ◌-◌}
use lib.Dec.{leb, ltb, eqb}
use lib.ListN.{length}
use Rattle.lists.specs.Lists.{singleton}
use Rattle.meaning.specs.Task.{Task}
use Rattle.meaning.specs.Meaning.{State, is_true, applies, solves, cost}
use Rattle.searching.specs.Search.{Node, opening_node, node_at, better, cheapest, same, lowered, meet, stepped, Kept, fit}
use Rattle.searching.specs.Search.{try_action, tried, found, no_plan, full, Answer, answer, with_place, go_on, turn, turns, explore, plan_to}
use Rattle.searching.proofs.Examples.{move, roads, detour}

-- The search from parts that may be wrong

-- better: a place beside the best before it; meet: a node that's met; fit: what is kept of old and new nodes;
-- early: a place below n at which the search stops before it's taken
pub record Search : Type 0 where
  pub better : List Node → ℕ → Option ℕ → Option ℕ
  pub meet : ℕ → List Node → Node → List Node
  pub fit : ℕ → List Node → List Node → Kept
  pub early : Task → List Node → ℕ → Option ℕ

abbrev never : Task → List Node → ℕ → Option ℕ
never t ns n = none

abbrev right : Search
right = record { better = better; meet = meet; fit = fit; early = never }

module _ (S : Search) where
  abbrev cheapest_by : List Node → (ℕ → Bool) → ℕ → Option ℕ
  cheapest_by ns taken zero = none
  cheapest_by ns taken (suc i) = cond (taken i) (cheapest_by ns taken i) (S.better ns i (cheapest_by ns taken i))

  abbrev try_by : Task → ℕ → ℕ → Node → ℕ → Kept → Kept
  try_by t limit i x k kept =
      cond (not kept.full && applies t x.state k)
      (S.fit limit kept.nodes (S.meet t.facts kept.nodes (stepped t i x k))) kept

  abbrev tried_by : Task → ℕ → ℕ → Node → List Node → ℕ → Kept
  tried_by t limit i x ns zero = record { nodes = ns; full = false }
  tried_by t limit i x ns (suc k) = try_by t limit i x k (tried_by t limit i x ns k)

  abbrev go_on_by : Task → (List Node → (ℕ → Bool) → Answer) → ℕ → (ℕ → Bool) → Kept → Option ℕ → Answer
  go_on_by t next i taken kept none = cond kept.full (answer full kept.nodes) (next kept.nodes (with_place i taken))
  go_on_by t next i taken kept (some j) = answer (found j) kept.nodes

  abbrev expand_by : Task → (List Node → (ℕ → Bool) → Answer) → ℕ → (ℕ → Bool) → Kept → Answer
  expand_by t next i taken kept = go_on_by t next i taken kept (S.early t kept.nodes (length kept.nodes))

  abbrev turn_by : Task → ℕ → (List Node → (ℕ → Bool) → Answer) → List Node → (ℕ → Bool) → Option ℕ → Answer
  turn_by t limit next ns taken none = answer no_plan ns
  turn_by t limit next ns taken (some i) =
      cond (is_true (node_at ns i).state t.goal) (answer (found i) ns)
      (expand_by t next i taken (tried_by t limit i (node_at ns i) ns (length t.actions)))

  abbrev turns_by : Task → ℕ → ℕ → List Node → (ℕ → Bool) → Answer
  turns_by t limit zero ns taken = answer no_plan ns
  turns_by t limit (suc n) ns taken = turn_by t limit (turns_by t limit n) ns taken (cheapest_by ns taken (length ns))

  abbrev explore_by : Task → ℕ → Answer
  explore_by t limit = turns_by t limit limit (singleton (opening_node t)) (λ i. false)

-- with the right parts it's the search

cheapest_right : (ns : List Node) (taken : ℕ → Bool) (n : ℕ) → cheapest_by right ns taken n ≡ cheapest ns taken n
cheapest_right ns taken zero = refl
cheapest_right ns taken (suc i) = ap (λ (c : Option ℕ). cond (taken i) c (better ns i c)) (cheapest_right ns taken i)

module _ (t : Task) (limit : ℕ) where
  tried_right : (i : ℕ) (x : Node) (ns : List Node) (n : ℕ) → tried_by right t limit i x ns n ≡ tried t limit i x ns n
  tried_right i x ns zero = refl
  tried_right i x ns (suc k) = ap (try_action t limit i x k) (tried_right i x ns k)

  turn_right : (next : List Node → (ℕ → Bool) → Answer) (ns : List Node) (taken : ℕ → Bool) (c : Option ℕ)
      → turn_by right t limit next ns taken c ≡ turn t limit next ns taken c
  turn_right next ns taken none = refl
  turn_right next ns taken (some i) =
      ap (λ (k : Kept). cond (is_true (node_at ns i).state t.goal) (answer (found i) ns) (go_on next i taken k))
      (tried_right i (node_at ns i) ns (length t.actions))

  turns_right : (n : ℕ) → turns_by right t limit n ≡ turns t limit n
  turns_right zero = refl
  turns_right (suc n) =
      fun_ext (λ ns. fun_ext (λ taken.
      (λ z. turn_by right t limit (turns_right n z) ns taken (cheapest_right ns taken (length ns) z))
      ∙ turn_right (turns t limit n) ns taken (cheapest ns taken (length ns))))

pub rightly : (t : Task) (limit : ℕ) → explore_by right t limit ≡ explore t limit
unfolding explore
rightly t limit = ap (λ (f : List Node → (ℕ → Bool) → Answer). f (singleton (opening_node t)) (λ i. false)) (turns_right t limit limit)

-- What goes wrong. plan_of: the plan to place i

abbrev plan_of : Search → Task → ℕ → ℕ → List ℕ
plan_of S t limit i = plan_to (explore_by S t limit).nodes i

-- the plan found doesn't solve
abbrev Unsound : Search → Task → ℕ → ℕ → Type 0
Unsound S t limit i = ((explore_by S t limit).outcome ≡ found i) × (solves t (plan_of S t limit i) ≡ false)

-- the plan found costs more than another list that solves
abbrev Costly : Search → Task → ℕ → ℕ → List ℕ → Type 0
Costly S t limit i q =
    ((explore_by S t limit).outcome ≡ found i) × (solves t q ≡ true) × (ltb (cost t q) (cost t (plan_of S t limit i)) ≡ true)

-- the cost found isn't the plan's
abbrev Mispriced : Search → Task → ℕ → ℕ → Type 0
Mispriced S t limit i =
    ((explore_by S t limit).outcome ≡ found i) × (eqb (node_at (explore_by S t limit).nodes i).cost (cost t (plan_of S t limit i)) ≡ false)

-- ties go to the latest: an open place that was found earlier and costs no more is passed by
abbrev later : List Node → ℕ → Option ℕ → Option ℕ
later ns i none = some i
later ns i (some b) = cond (leb (node_at ns i).cost (node_at ns b).cost) (some i) (some b)

abbrev latest : Search
latest = record { better = later; meet = meet; fit = fit; early = never }

abbrev PassesBy : Search → List Node → (ℕ → Bool) → ℕ → ℕ → Type 0
PassesBy S ns taken j i =
    (cheapest_by S ns taken (length ns) ≡ some i) × (taken j ≡ false) × (ltb j i ≡ true) × (leb (node_at ns j).cost (node_at ns i).cost ≡ true)

-- two ways of one cost to the goal
abbrev twins : Task
twins = roads (move 3 0 1 ∷ move 3 0 2 ∷ move 1 2 3 ∷ move 1 1 3 ∷ [])

-- the nodes when place 0 is taken and its actions are tried
abbrev first_turn : List Node
first_turn = (tried_by latest twins 4 0 (opening_node twins) (singleton (opening_node twins)) 4).nodes

passes_by : PassesBy latest first_turn (with_place 0 (λ q. false)) 1 2
passes_by = (refl, refl, refl, refl)

-- and the other way is found
second_way : (plan_of right twins 4 3 ≡ 0 ∷ 3 ∷ []) × (plan_of latest twins 4 3 ≡ 1 ∷ 2 ∷ [])
second_way = (refl, refl)

-- an equal cost replaces: fact 1 leads to fact 2 and back for nothing, and the origins go round
abbrev lowered_equal : Node → Node → Node
lowered_equal n x =
    cond (leb x.cost n.cost) (record { state = n.state; cost = x.cost; origin = x.origin; action = x.action }) n

abbrev meet_by : (Node → Node → Node) → ℕ → List Node → Node → List Node
meet_by low F [] x = singleton x
meet_by low F (n ∷ ns) x = cond (same F n.state x.state) (low n x ∷ ns) (n ∷ meet_by low F ns x)

abbrev equal_replaces : Search
equal_replaces = record { better = better; meet = meet_by lowered_equal; fit = fit; early = never }

goes_round : Unsound equal_replaces (roads (move 1 0 1 ∷ move 0 1 2 ∷ move 0 2 1 ∷ move 5 1 3 ∷ [])) 4 3
goes_round = (refl, refl)

-- the goal is looked at when a state is found; goal_below: a place below n that meets it
abbrev goal_below : Task → List Node → ℕ → Option ℕ
goal_below t ns zero = none
goal_below t ns (suc i) = cond (is_true (node_at ns i).state t.goal) (some i) (goal_below t ns i)

abbrev goal_found : Search
goal_found = record { better = better; meet = meet; fit = fit; early = goal_below }

too_soon : Costly goal_found detour 4 1 (2 ∷ 3 ∷ 4 ∷ [])
too_soon = (refl, refl, refl)

-- full one node early: the states there are would have had room
abbrev fit_below : (ℕ → ℕ) → ℕ → List Node → List Node → Kept
fit_below f limit old new = fit (f limit) old new

abbrev full_early : Search
full_early = record { better = better; meet = meet; fit = fit_below (λ n. n - 1); early = never }

early : ((explore_by full_early detour 4).outcome ≡ full) × (length (explore detour 5).nodes ≡ 4)
unfolding explore
early = (refl, refl)

-- and one late: more nodes are kept than the limit
abbrev full_late : Search
full_late = record { better = better; meet = meet; fit = fit_below suc; early = never }

late : ltb 3 (length (explore_by full_late detour 3).nodes) ≡ true
late = refl

-- a lowered cost moves the place to the end: the place that it leaves is another state's, which is passed by
abbrev without : ℕ → List Node → State → List Node
without F [] s = []
without F (n ∷ ns) s = cond (same F n.state s) ns (n ∷ without F ns s)

abbrev moved : ℕ → List Node → List Node → Node → List Node
moved F all [] x = all ++ singleton x
moved F all (n ∷ ns) x =
    cond (same F n.state x.state)
    (cond (ltb x.cost n.cost) (without F all x.state ++ singleton x) all) (moved F all ns x)

abbrev moves : Search
moves = record { better = better; meet = λ F ns x. moved F ns ns x; fit = fit; early = never }

misplaced : Costly moves detour 4 1 (2 ∷ 3 ∷ 4 ∷ [])
misplaced = (refl, refl, refl)

-- the cost is lowered, and the origin and the action stay
abbrev lowered_cost : Node → Node → Node
lowered_cost n x = cond (ltb x.cost n.cost) (record { state = n.state; cost = x.cost; origin = n.origin; action = n.action }) n

abbrev origin_stays : Search
origin_stays = record { better = better; meet = meet_by lowered_cost; fit = fit; early = never }

other_way : Mispriced origin_stays detour 4 1
other_way = (refl, refl)

-- a table that looks at the first entry of a hash alone misses a state of an equal hash, and there are two entries of one state
abbrev meet_hashed : (State → ℕ) → ℕ → List Node → Node → List Node
meet_hashed hash F [] x = singleton x
meet_hashed hash F (n ∷ ns) x =
    cond (same F n.state x.state) (lowered n x ∷ ns)
    (cond (eqb (hash n.state) (hash x.state)) (n ∷ ns ++ singleton x) (n ∷ meet_hashed hash F ns x))

abbrev misses : Search
misses = record { better = better; meet = meet_hashed (λ s. 0); fit = fit; early = never }

-- places i and j have the same state
abbrev Twice : Search → Task → ℕ → ℕ → ℕ → Type 0
Twice S t limit i j = same t.facts (node_at (explore_by S t limit).nodes i).state (node_at (explore_by S t limit).nodes j).state ≡ true

twice : Twice misses detour 1024 2 4
twice = refl
