-- Request 11's claim about the search of a task without preferences: one record. The lists are of any length, and the sums whole numbers
-- without a limit.
use Rattle.std.specs.Prelude.{◌≡◌, ◌↔◌, List, ℕ, suc, ◌≤◌, ◌<◌, T, length}
use Rattle.meaning.specs.Task.{Task}
use Rattle.meaning.specs.Meaning.{solves, cost}
use Rattle.searching.specs.Search.{node_at, found, no_plan, full, explore, plan_to}

-- p solves, and no list that solves costs less
pub record Cheapest (t : Task) (p : List ℕ) : Type 0 where
  pub solution : T (solves t p)
  pub least : (q : List ℕ) → T (solves t q) → cost t p ≤ cost t q

abbrev pub Unsolvable : Task → Type 0
Unsolvable t = (q : List ℕ) → T (solves t q) → ⊥

-- plan, priced, short: the plan found is a cheapest one, its cost is its node's, and its steps are fewer than the limit;
-- none: unless full is answered, none is answered exactly if no list solves;
-- crowded: full is answered exactly if the search with room for one node more keeps more than the limit
pub record Claim (t : Task) (limit : ℕ) : Type 0 where
  pub plan : (i : ℕ) → (explore t limit).outcome ≡ found i → Cheapest t (plan_to (explore t limit).nodes i)
  pub priced : (i : ℕ) → (explore t limit).outcome ≡ found i
      → cost t (plan_to (explore t limit).nodes i) ≡ (node_at (explore t limit).nodes i).cost
  pub short : (i : ℕ) → (explore t limit).outcome ≡ found i → length (plan_to (explore t limit).nodes i) < limit
  pub none : ((explore t limit).outcome ≡ full → ⊥) → ((explore t limit).outcome ≡ no_plan) ↔ Unsolvable t
  pub crowded : ((explore t limit).outcome ≡ full) ↔ (limit < length (explore t (suc limit)).nodes)
