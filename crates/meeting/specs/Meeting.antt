-- The nodes of a search as its code holds them, and a node that is met.
use Rattle.std.specs.Prelude.{◌≡◌, ◌⊎◌, Bool, not, cond, ◌&&◌, List, ℕ, suc, ◌^◌, ◌≤◌, ◌<◌, leb, ltb, length, Option, Some, None}
use Rattle.state.specs.Member.{member}
use Rattle.searching.specs.Search.{Node, Kept, meet, fit}
use Rattle.searching.specs.States.{Below}
use Rattle.node_words.specs.Words.{LIST_WORDS, packed_at, state_of, as_node, nodes_of, Written}
use Rattle.node_words.specs.declared.Packed.{Packed}
use Rattle.state_table.specs.Table.{Tabled}
use Rattle.tournament.specs.Tournament.{cost_at, Nowhere, Played}

-- the nodes of a search: words, table and tree as its code holds them, how many there are, and which places have been taken
pub record Nodes : Type 0 where
  pub words : List ℕ
  pub table : List ℕ
  pub tree : List ℕ
  pub count : ℕ
  pub taken : ℕ → Bool

abbrev pub nodes_in : List ℕ → List ℕ → List ℕ → ℕ → (ℕ → Bool) → Nodes
nodes_in words table tree n taken = record { words = words; table = table; tree = tree; count = n; taken = taken }

-- what they stand for
abbrev pub list_of : Nodes → List Node
list_of s = nodes_of s.words s.count

-- a strictly cheaper way x was put in at place p; a way that is not changes nothing
abbrev pub Lowered : List ℕ → List ℕ → ℕ → Packed → Type 0
Lowered ws new p x = ((x.cost < cost_at ws p) × Written ws new p x) ⊎ ((cost_at ws p ≤ x.cost) × (new ≡ ws))

-- the places below n that are not taken
abbrev pub open_below : ℕ → (ℕ → Bool) → ℕ → Bool
open_below n taken q = ltb q n && not (taken q)

-- words of 64 bits
abbrev pub Narrow : Packed → Type 0
Narrow x = (x.low < 2 ^ 64) × (x.high < 2 ^ 64)

-- every game of the tree is played, over the words of the longest list
pub record PlayedOut (words tree : List ℕ) : Type 0 where
  pub long : length words ≡ LIST_WORDS
  pub is_open : ℕ → Bool
  pub played : Played tree words is_open Nowhere

-- words, table and tree have the nodes
pub record Held (s : Nodes) : Type 0 where
  pub long : length s.words ≡ LIST_WORDS
  pub tabled : Tabled s.table s.words s.count
  pub played : Played s.tree s.words (open_below s.count s.taken) Nowhere
  pub narrow : (p : ℕ) → p < s.count → Narrow (packed_at s.words p)

-- of the nodes that were wanted, those that have room
abbrev pub roomed : ℕ → Nodes → Nodes
roomed limit s = nodes_in s.words s.table s.tree (cond (leb s.count limit) s.count limit) s.taken

-- what is kept of them
abbrev pub kept_as : ℕ → Nodes → Kept
kept_as limit s = record { nodes = list_of (roomed limit s); full = not (leb s.count limit) }

-- the nodes name facts below F only
abbrev pub AllBelow : ℕ → Nodes → Type 0
AllBelow F s = (p : ℕ) → p < s.count → Below F (member (state_of (packed_at s.words p)))

-- how many nodes were wanted, one more than the limit where the last had no room
abbrev pub wanted : ℕ → Option ℕ → ℕ
wanted limit (Some n) = n
wanted limit None = suc limit

-- x is met; where it is new and has no room, `after` counts it all the same
pub record MetAs (before after : Nodes) (limit : ℕ) (x : Packed) : Type 0 where
  pub holds : Held (roomed limit after)
  pub same_taken : after.taken ≡ before.taken
  pub more : before.count ≤ (roomed limit after).count
  pub below : (F : ℕ) → AllBelow F before → Below F (member (state_of x)) → AllBelow F (roomed limit after)
  pub keeps : (F : ℕ) → AllBelow F before → Below F (member (state_of x)) → kept_as limit after ≡ fit limit (list_of before) (meet F (list_of before) (as_node x))
