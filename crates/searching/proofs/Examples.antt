-- Small tasks, computed.
use mathlib.Core.Path.{◌≡◌, refl}
use mathlib.Core.Bool.{true}
use mathlib.Core.List.{List, [], ◌∷◌, map}
use Prim.Native.Nat.{ℕ}
use Rattle.lists.specs.Lists.{singleton}
use Rattle.meaning.specs.Task.{Task, Action, Condition}
use Rattle.searching.specs.Search.{Node, Outcome, found, no_plan, full, explore, plan_to, Answer}

abbrev pub has : ℕ → Condition
has n = singleton (singleton (record { holds = true; fact = n }))

-- where fact m holds, it's left for fact n
abbrev pub move : ℕ → ℕ → ℕ → Action
move c m n = record { cost = c; precondition = has m; effects = singleton (record { condition = []; adds = singleton n; deletes = singleton m }) }

abbrev pub roads : List Action → Task
roads ways = record { facts = 4; start = singleton 0; goal = has 3; actions = ways; preferences = [] }

-- costs, origins and actions of the nodes, with the outcome
abbrev Seen : Type 0
Seen = record { outcome : Outcome; costs : List ℕ; origins : List ℕ; actions : List ℕ }

abbrev seen : Answer → Seen
seen a =
    record {
      outcome = a.outcome;
      costs = map (λ (n : Node). n.cost) a.nodes;
      origins = map (λ (n : Node). n.origin) a.nodes;
      actions = map (λ (n : Node). n.action) a.nodes;
    }

-- from 0 to 3 directly for 9, by 1 for 8, by 2 and 1 for 7: the entries of 1 and 3 are lowered and keep their places
abbrev pub detour : Task
detour = roads (move 9 0 3 ∷ move 4 0 1 ∷ move 1 0 2 ∷ move 2 2 1 ∷ move 4 1 3 ∷ [])

detour_found : seen (explore detour 4) ≡ record {
  outcome = found 1;
  costs = 0 ∷ 7 ∷ 3 ∷ 1 ∷ [];
  origins = 0 ∷ 2 ∷ 3 ∷ 0 ∷ [];
  actions = 0 ∷ 4 ∷ 3 ∷ 2 ∷ [];
}
unfolding explore
detour_found = refl

detour_plan : plan_to (explore detour 4).nodes 1 ≡ 2 ∷ 3 ∷ 4 ∷ []
unfolding explore
detour_plan = refl

detour_full : seen (explore detour 3) ≡ record {
  outcome = full;
  costs = 0 ∷ 9 ∷ 4 ∷ [];
  origins = 0 ∷ 0 ∷ 0 ∷ [];
  actions = 0 ∷ 0 ∷ 1 ∷ [];
}
unfolding explore
detour_full = refl

-- both ways cost 3, one of them by an action of cost 0: the first found is kept
abbrev ties : Task
ties = roads (move 3 0 1 ∷ move 3 0 2 ∷ move 0 2 1 ∷ move 0 1 3 ∷ move 0 2 3 ∷ [])

ties_found : seen (explore ties 1024) ≡ record {
  outcome = found 3;
  costs = 0 ∷ 3 ∷ 3 ∷ 3 ∷ [];
  origins = 0 ∷ 0 ∷ 0 ∷ 1 ∷ [];
  actions = 0 ∷ 0 ∷ 1 ∷ 3 ∷ [];
}
unfolding explore
ties_found = refl

-- the goal is looked at when a state is taken: a state found before it has no room
late_full : (explore (roads (move 1 0 3 ∷ move 1 0 1 ∷ [])) 2).outcome ≡ full
unfolding explore
late_full = refl

in_time_lem : (explore (roads (move 1 0 3 ∷ move 1 0 1 ∷ [])) 3).outcome ≡ found 1
unfolding explore
in_time_lem = refl

shut : (explore (roads (move 1 0 1 ∷ move 1 1 0 ∷ [])) 2).outcome ≡ no_plan
unfolding explore
shut = refl

-- the opening state meets the goal: no action is tried
abbrev settled : Task
settled = record { facts = 1; start = singleton 0; goal = has 0; actions = singleton (move 0 0 1); preferences = [] }

at_once : seen (explore settled 1) ≡ record { outcome = found 0; costs = singleton 0; origins = singleton 0; actions = singleton 0 }
unfolding explore
at_once = refl
