-- A table of the nodes' states: entry 0 is an empty slot, entry p + 1 the node at place p.
use Rattle.std.specs.Prelude.{◌≡◌, Bool, true, cond, ◌&&◌, List, [], ◌∷◌, ℕ, zero, suc, ◌+◌, ◌*◌, ◌%◌, ◌≤◌, ◌<◌, eqb, length, get_or}
use Rattle.state.specs.declared.State.{State}
use Rattle.fnv.specs.Fnv.{fnv1a, state_bytes}
use Rattle.searching.specs.Limits.{MAX_NODES}
use Rattle.node_words.specs.Words.{packed_at, state_of}

-- the state of the node at place p
abbrev pub state_at : List ℕ → ℕ → State
state_at ws p = state_of (packed_at ws p)

-- twice as many as nodes, so that there is always an empty one
abbrev pub SLOTS : ℕ
SLOTS = 2 * MAX_NODES

-- the slot that the state's hash says
unfoldable pub home_of : State → ℕ
home_of s = fnv1a (state_bytes s) % SLOTS

-- the slot at distance d from there, the first slot following the last
abbrev pub slot_of : State → ℕ → ℕ
slot_of s d = (home_of s + d) % SLOTS

abbrev pub entry_at : List ℕ → ℕ → ℕ
entry_at table r = get_or table r 0

-- a way to slot r from the state's home, without an empty slot before it
pub record Way (table : List ℕ) (s : State) (r : ℕ) : Type 0 where
  pub distance : ℕ
  pub ends : r ≡ slot_of s distance
  pub filled : (d : ℕ) → d < distance → entry_at table (slot_of s d) ≡ 0 → ⊥

-- node p stands in a slot to which there is a way
pub record Entered (table ws : List ℕ) (p : ℕ) : Type 0 where
  pub slot : ℕ
  pub way : Way table (state_at ws p) slot
  pub entry : entry_at table slot ≡ suc p

-- how many slots are not empty
abbrev pub taken : List ℕ → ℕ
taken [] = 0
taken (e ∷ es) = cond (eqb e 0) (taken es) (suc (taken es))

-- the table has the first n nodes, each with a state of its own
pub record Tabled (table ws : List ℕ) (n : ℕ) : Type 0 where
  pub few : n ≤ MAX_NODES
  pub room : 4 * n ≤ length ws
  pub slots : length table ≡ SLOTS
  pub known : (r : ℕ) → entry_at table r ≤ n
  pub entered : (p : ℕ) → p < n → Entered table ws p
  pub distinct : (p q : ℕ) → p < n → q < n → state_at ws p ≡ state_at ws q → p ≡ q
  pub sparse : taken table ≤ n

-- the entry is empty, or its node has state s
abbrev pub stops_at : List ℕ → State → ℕ → Bool
stops_at ws s zero = true
stops_at ws s (suc p) = eqb (state_at ws p).low s.low && eqb (state_at ws p).high s.high

-- the entry says whether a node has state s, and which
abbrev pub Finds : List ℕ → ℕ → State → ℕ → Type 0
Finds ws n s zero = (p : ℕ) → p < n → state_at ws p ≡ s → ⊥
Finds ws n s (suc p) = (p < n) × (state_at ws p ≡ s)

-- slot r is where state s stands, or would
pub record Probed (table ws : List ℕ) (n : ℕ) (s : State) (r : ℕ) : Type 0 where
  pub within : r < SLOTS
  pub way : Way table s r
  pub finds : Finds ws n s (entry_at table r)
