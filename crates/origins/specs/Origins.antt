-- Nodes whose origins are among them, as words.
use Rattle.std.specs.Prelude.{List, ℕ, ◌<◌, length}
use Rattle.searching.specs.Search.{Node, node_at}
use Rattle.node_words.specs.Words.{RoomFor, nodes_of}

abbrev pub Inside : List Node → Type 0
Inside ns = (p : ℕ) → p < length ns → (node_at ns p).origin < length ns

-- a place of n nodes, from which the origins lead on
pub record PlaceIn (ws : List ℕ) (n place : ℕ) : Type 0 where
  pub below : place < n
  pub there : RoomFor ws n
  pub inside : Inside (nodes_of ws n)
