-- A tournament tree over the places of a search: a leaf for each from node LEAVES on, and in node k before them the cheaper entry of the
-- nodes 2k and 2k + 1. An entry is 0, or a place + 1.
use Rattle.std.specs.Prelude.{◌≡◌, ◌⊎◌, Bool, cond, List, ℕ, zero, suc, ◌+◌, ◌*◌, ◌/◌, ◌≤◌, ◌<◌, eqb, ltb, length, get_or}
use Rattle.std.proofs.Math.Option.{Option, none, some}
use Rattle.searching.specs.Limits.{MAX_NODES}
use Rattle.node_words.specs.Words.{RoomFor, packed_at}

-- the leaf of place 0
abbrev pub LEAVES : ℕ
LEAVES = MAX_NODES

-- the entries of a tree; entry 0 is none of its nodes
abbrev pub ENTRIES : ℕ
ENTRIES = 2 * LEAVES

abbrev pub cost_at : List ℕ → ℕ → ℕ
cost_at ws p = (packed_at ws p).cost

-- of two entries the cheaper, on ties the first
abbrev pub cheaper : List ℕ → ℕ → ℕ → ℕ
cheaper ws zero b = b
cheaper ws (suc p) zero = suc p
cheaper ws (suc p) (suc q) = cond (ltb (cost_at ws q) (cost_at ws p)) (suc q) (suc p)

abbrev pub entry_at : List ℕ → ℕ → ℕ
entry_at tree k = get_or tree k 0

abbrev pub Game : List ℕ → List ℕ → ℕ → Type 0
Game tree ws k = entry_at tree k ≡ cheaper ws (entry_at tree (2 * k)) (entry_at tree (2 * k + 1))

-- the node that is f above k
abbrev pub up : ℕ → ℕ → ℕ
up zero k = k
up (suc f) k = up f (k / 2)

-- j is k or above it
abbrev pub OnWay : ℕ → ℕ → Type 0
OnWay k j = (f : ℕ) × (up f k ≡ j)

abbrev pub Nowhere : ℕ → Type 0
Nowhere k = ⊥

-- an entry whose node is among the words
abbrev pub Known : List ℕ → ℕ → Type 0
Known ws e = RoomFor ws e

-- the tree of the open places: each game is played but where `except` says
pub record Played (tree ws : List ℕ) (is_open : ℕ → Bool) (except : ℕ → Type 0) : Type 0 where
  pub nodes : length tree ≡ ENTRIES
  pub known : (k : ℕ) → Known ws (entry_at tree k)
  pub leaves : (p : ℕ) → p < MAX_NODES → entry_at tree (LEAVES + p) ≡ cond (is_open p) (suc p) 0
  pub games : (k : ℕ) → 1 ≤ k → k < LEAVES → except k ⊎ Game tree ws k

-- the open places, where p is now open or not
abbrev pub with_leaf : ℕ → Bool → (ℕ → Bool) → ℕ → Bool
with_leaf p b is_open q = cond (eqb q p) b (is_open q)

-- the choice that an entry says
abbrev pub as_choice : ℕ → Option ℕ
as_choice zero = none
as_choice (suc p) = some p
