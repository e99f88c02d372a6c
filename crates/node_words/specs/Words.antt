-- The nodes of a search as words, four for each.
use Rattle.std.specs.Prelude.{◌≡◌, List, [], ◌++◌, ℕ, zero, suc, ◌+◌, ◌*◌, ◌/◌, ◌%◌, ◌≤◌, length, get_or}
use Rattle.lists.specs.Lists.{singleton}
use Rattle.state.specs.declared.State.{State}
use Rattle.state.specs.Member.{member}
use Rattle.searching.specs.Limits.{MAX_NODES}
use Rattle.searching.specs.Search.{Node}
use Rattle.node_words.specs.declared.Packed.{Packed}

-- the words of the longest list of nodes
abbrev pub LIST_WORDS : ℕ
LIST_WORDS = 4 * MAX_NODES

-- the words of n nodes are there, no more than a search may keep
pub record RoomFor (ws : List ℕ) (n : ℕ) : Type 0 where
  pub few : n ≤ MAX_NODES
  pub room : 4 * n ≤ length ws

-- those of the node at place p, and of all before it
abbrev pub Placed : List ℕ → ℕ → Type 0
Placed ws p = RoomFor ws (suc p)

-- the words at place p
unfoldable pub packed_at : List ℕ → ℕ → Packed
packed_at ws p = record { low = get_or ws (4 * p) 0; high = get_or ws (4 * p + 1) 0; cost = get_or ws (4 * p + 2) 0; link = get_or ws (4 * p + 3) 0 }

abbrev pub state_of : Packed → State
state_of x = record { low = x.low; high = x.high }

-- what they stand for: the link is the origin times 256, plus the action
abbrev pub as_node : Packed → Node
as_node x = record { state = member (state_of x); cost = x.cost; origin = x.link / 256; action = x.link % 256 }

-- the first n nodes
abbrev pub nodes_of : List ℕ → ℕ → List Node
nodes_of ws zero = []
nodes_of ws (suc n) = nodes_of ws n ++ singleton (as_node (packed_at ws n))

-- x was written at place p, and nothing else
pub record Written (ws new : List ℕ) (p : ℕ) (x : Packed) : Type 0 where
  pub long : length new ≡ length ws
  pub here : packed_at new p ≡ x
  pub others : (q : ℕ) → (q ≡ p → ⊥) → packed_at new q ≡ packed_at ws q
