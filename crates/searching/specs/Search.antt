-- The search for a cheapest plan: request 11. A place is a number in the list of nodes, from 0.
use Rattle.std.specs.Prelude.{Bool, true, false, not, cond, ◌&&◌, ◌||◌, List, [], ◌∷◌, ◌++◌, ℕ, zero, suc, ◌+◌, leb, eqb, ltb, length, get_or}
use Rattle.std.specs.Bool.{beq}
use Rattle.std.proofs.Math.Option.{Option, none, some}
use Rattle.lists.specs.Lists.{singleton}
use Rattle.meaning.specs.Task.{Task}
use Rattle.meaning.specs.Meaning.{State, is_true, opening, after, action_at, applies}

-- origin is the place from which action leads to state
pub record Node : Type 0 where
  pub state : State
  pub cost : ℕ
  pub origin : ℕ
  pub action : ℕ

abbrev pub opening_node : Task → Node
opening_node t = record { state = opening t; cost = 0; origin = 0; action = 0 }

-- stands after the last place
abbrev pub no_node : Node
no_node = record { state = λ n. false; cost = 0; origin = 0; action = 0 }

abbrev pub node_at : List Node → ℕ → Node
node_at ns i = get_or ns i no_node

-- Choosing. A place of the list is open until it's taken

-- place i beside the best place before it; on ties the earlier one
abbrev pub better : List Node → ℕ → Option ℕ → Option ℕ
better ns i none = some i
better ns i (some b) = cond (ltb (node_at ns i).cost (node_at ns b).cost) (some i) (some b)

-- the cheapest open place below n, if one is open
abbrev pub cheapest : List Node → (ℕ → Bool) → ℕ → Option ℕ
cheapest ns taken zero = none
cheapest ns taken (suc i) = cond (taken i) (cheapest ns taken i) (better ns i (cheapest ns taken i))

-- Expanding

-- two states that hold the same facts below F
abbrev pub same : ℕ → State → State → Bool
same zero s r = true
same (suc n) s r = same n s r && beq (s n) (r n)

-- the entry of a state, and a further way to it: only a strictly cheaper one is put in
abbrev pub lowered : Node → Node → Node
lowered n x =
    cond (ltb x.cost n.cost) (record { state = n.state; cost = x.cost; origin = x.origin; action = x.action }) n

-- x is met: its state's entry is lowered, or it's a new one at the end
abbrev pub meet : ℕ → List Node → Node → List Node
meet F [] x = singleton x
meet F (n ∷ ns) x = cond (same F n.state x.state) (lowered n x ∷ ns) (n ∷ meet F ns x)

-- what action k leads to from node x at place i
abbrev pub stepped : Task → ℕ → Node → ℕ → Node
stepped t i x k =
    record {
      state = after x.state (action_at t k);
      cost = x.cost + (action_at t k).cost;
      origin = i;
      action = k;
    }

-- the nodes kept; full if a further one had no room
pub record Kept : Type 0 where
  pub nodes : List Node
  pub full : Bool

abbrev pub fit : ℕ → List Node → List Node → Kept
fit limit old new = cond (leb (length new) limit) (record { nodes = new; full = false }) (record { nodes = old; full = true })

abbrev pub try_action : Task → ℕ → ℕ → Node → ℕ → Kept → Kept
try_action t limit i x k kept =
    cond (not kept.full && applies t x.state k)
    (fit limit kept.nodes (meet t.facts kept.nodes (stepped t i x k))) kept

-- the actions below n tried in turn, from node x at place i
abbrev pub tried : Task → ℕ → ℕ → Node → List Node → ℕ → Kept
tried t limit i x ns zero = record { nodes = ns; full = false }
tried t limit i x ns (suc k) = try_action t limit i x k (tried t limit i x ns k)

-- The whole search

-- found has the place of a node that meets the goal
pub data Outcome : Type 0 where
  found : ℕ → Outcome
  no_plan : Outcome
  full : Outcome

pub record Answer : Type 0 where
  pub outcome : Outcome
  pub nodes : List Node

abbrev pub answer : Outcome → List Node → Answer
answer o ns = record { outcome = o; nodes = ns }

abbrev pub with_place : ℕ → (ℕ → Bool) → ℕ → Bool
with_place i taken j = eqb j i || taken j

-- after the expansion of place i the search goes on, if all had room
abbrev pub go_on : (List Node → (ℕ → Bool) → Answer) → ℕ → (ℕ → Bool) → Kept → Answer
go_on next i taken kept = cond kept.full (answer full kept.nodes) (next kept.nodes (with_place i taken))

-- the chosen place is taken
abbrev pub turn : Task → ℕ → (List Node → (ℕ → Bool) → Answer) → List Node → (ℕ → Bool) → Option ℕ → Answer
turn t limit next ns taken none = answer no_plan ns
turn t limit next ns taken (some i) =
    cond (is_true (node_at ns i).state t.goal) (answer (found i) ns)
    (go_on next i taken (tried t limit i (node_at ns i) ns (length t.actions)))

-- at most n turns; each takes a place for good, so that none is open when none is left
abbrev pub turns : Task → ℕ → ℕ → List Node → (ℕ → Bool) → Answer
turns t limit zero ns taken = answer no_plan ns
turns t limit (suc n) ns taken = turn t limit (turns t limit n) ns taken (cheapest ns taken (length ns))

-- there are no more turns than places
unfoldable pub explore : Task → ℕ → Answer
explore t limit = turns t limit limit (singleton (opening_node t)) (λ i. false)

-- the actions that lead to place i, read from at most n origins
abbrev pub plan_from : List Node → ℕ → ℕ → List ℕ
plan_from ns zero i = []
plan_from ns (suc n) i = cond (eqb i 0) [] (plan_from ns n (node_at ns i).origin ++ singleton (node_at ns i).action)

abbrev pub plan_to : List Node → ℕ → List ℕ
plan_to ns i = plan_from ns (length ns) i
