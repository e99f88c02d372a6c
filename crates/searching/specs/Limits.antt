-- How many nodes a search may keep, and how many steps a plan found may have.
use Rattle.std.specs.Prelude.{ℕ, ◌-◌, ◌≤◌}

abbrev pub MAX_NODES : ℕ
MAX_NODES = 1024

-- how many nodes a search can be told to keep at most
pub record NodeLimit (limit : ℕ) : Type 0 where
  pub some : 1 ≤ limit
  pub few : limit ≤ MAX_NODES

-- steps of a plan found: one fewer than nodes
abbrev pub MAX_FOUND : ℕ
MAX_FOUND = MAX_NODES - 1
