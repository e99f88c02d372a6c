-- Lists of nodes, and what a node stands for.
use Rattle.std.specs.Prelude.{List, [], ◌∷◌, ◌++◌, ℕ, zero, suc, ◌/◌, ◌%◌, get_or}
use Rattle.state.specs.Member.{member}
use Rattle.searching.specs.Search
use Rattle.node_words.specs.declared.Packed.{Packed}
use Rattle.node_words.specs.Words.{packed_at, state_of}
use Rattle.nodes.specs.declared.Node.{Node}

abbrev pub as_node : Node → Search.Node
as_node n = record { state = member n.state; cost = n.cost; origin = n.origin; action = n.action }

abbrev pub no_node : Node
no_node = record { state = record { low = 0; high = 0 }; cost = 0; origin = 0; action = 0 }

abbrev pub node_at : List Node → ℕ → Node
node_at ns i = get_or ns i no_node

-- a node's four words; no origin in a list of nodes is over 65,535
abbrev pub unpacked : Packed → Node
unpacked x = record { state = state_of x; cost = x.cost; origin = x.link / 256 % 65536; action = x.link % 256 }

-- the node whose words stand at place i
abbrev pub node_read : List ℕ → ℕ → Node
node_read ws i = unpacked (packed_at ws i)

-- f 0, f 1 and so on, n of them
abbrev pub up_to : {A : Type 0} → (ℕ → A) → ℕ → List A
up_to f zero = []
up_to f (suc n) = up_to f n ++ f n ∷ []
