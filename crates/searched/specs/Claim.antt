-- Request 11's claim about what search answers on the task in b: one record. The lists are of any length, and the sums whole numbers without
-- a limit.
use Rattle.std.specs.Prelude.{◌≡◌, ◌↔◌, List, ℕ, suc, ◌<◌, ◌≤◌, length}
use Rattle.meaning.specs.Meaning.{cost}
use Rattle.task.specs.File.{task_of}
use Rattle.searching.specs.Limits.{MAX_FOUND}
use Rattle.searching.specs.Search.{explore}
use Rattle.searching.specs.Claim.{Cheapest, Unsolvable}
use Rattle.searched.specs.Searched.{Answer, found, no_plan, full, refused}

-- x is no refusal
abbrev pub Tried : Answer → Type 0
Tried x = (n i : ℕ) → x ≡ refused n i → ⊥

-- plan, priced, short: a plan found is a cheapest one, has the cost found, and has at most MAX_FOUND steps;
-- none: a search that isn't full finds no plan exactly if no list solves;
-- crowded: a search is full exactly if with room for one node more it keeps more than the limit
pub record Claim (b : List ℕ) (limit : ℕ) (x : Answer) : Type 0 where
  pub plan : (p : List ℕ) (c : ℕ) → x ≡ found p c → Cheapest (task_of b) p
  pub priced : (p : List ℕ) (c : ℕ) → x ≡ found p c → cost (task_of b) p ≡ c
  pub short : (p : List ℕ) (c : ℕ) → x ≡ found p c → length p ≤ MAX_FOUND
  pub none : Tried x → (x ≡ full → ⊥) → (x ≡ no_plan) ↔ Unsolvable (task_of b)
  pub crowded : Tried x → (x ≡ full) ↔ (limit < length (explore (task_of b) (suc limit)).nodes)
