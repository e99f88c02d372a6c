-- A place whose actions are tried.
use Rattle.std.specs.Prelude.{◌≡◌, ◌⊎◌, true, false, List, ℕ, ◌≤◌, ◌<◌, length}
use Rattle.meaning.specs.Task.{Task}
use Rattle.meaning.specs.Meaning.{applies}
use Rattle.task.specs.Limits.{MAX_ACTIONS}
use Rattle.task.specs.Rows.{Rows}
use Rattle.state.specs.Member.{member}
use Rattle.leading.specs.Leading.{LedTo}
use Rattle.node_words.specs.declared.Packed.{Packed}
use Rattle.layout.specs.Counting.{AMPLE}
use Rattle.layout.specs.Rows.{Spells}
use Rattle.layout.specs.Actions
use Rattle.layout.specs.Actions.{Noted}
use Rattle.searching.specs.Limits.{MAX_NODES}
use Rattle.searching.specs.Search.{Node, tried}
use Rattle.node_words.specs.Words.{packed_at, state_of, as_node}
use Rattle.meeting.specs.Meeting.{Nodes, list_of, Held, roomed, kept_as, AllBelow, MetAs}
use Rattle.expanding.specs.declared.Trial.{Trial}
use Rattle.expanding.specs.declared.Turn.{Turn}

-- marks and values spell t, and entry k of starts is the row of its action k
pub record Listed (ms vs starts : List ℕ) (t : Task) : Type 0 where
  pub rows : Rows ms vs
  pub spells : Spells ms vs t
  pub all_actions : length starts ≡ length t.actions
  pub few_actions : length starts ≤ MAX_ACTIONS
  pub noted : Noted t starts
  pub inside : Actions.AllBelow (length ms) starts

-- One action

-- an action can be tried from x: the nodes are held, and the next place is not taken
pub record Trying (limit : ℕ) (x : Packed) (s : Nodes) : Type 0 where
  pub ample : x.cost < AMPLE
  pub room : s.count ≤ limit
  pub limited : limit ≤ MAX_NODES
  pub held : Held s
  pub fresh : s.taken s.count ≡ false

-- action k of t, tried from x: nothing is done where it does not apply, and else the node that it leads to is met
abbrev pub Tried : Trial → Packed → Nodes → Nodes → Task → ℕ → Type 0
Tried z x before after t k =
    ((applies t (member (state_of x)) k ≡ false) × (after ≡ before))
    ⊎ ((y : Packed) × LedTo t k x z.link y × MetAs before after z.limit y)

-- All actions

-- the place of turn u is taken, and none of its actions tried yet
pub record Expanding (u : Turn) (s : Nodes) (t : Task) : Type 0 where
  pub room : s.count ≤ u.limit
  pub limited : u.limit ≤ MAX_NODES
  pub placed : u.place < s.count
  pub held : Held s
  pub below : AllBelow t.facts s
  pub within : (j : ℕ) → s.taken j ≡ true → j < s.count
  pub ample : (packed_at s.words u.place).cost < AMPLE

-- the node that is expanded
abbrev pub node_read : Turn → Nodes → Node
node_read u s = as_node (packed_at s.words u.place)

-- all its actions have been tried
pub record Expanded (u : Turn) (before after : Nodes) (t : Task) : Type 0 where
  pub keeps : kept_as u.limit after ≡ tried t u.limit u.place (node_read u before) (list_of before) (length t.actions)
  pub holds : Held (roomed u.limit after)
