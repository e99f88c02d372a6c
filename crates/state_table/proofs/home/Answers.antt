-- The hash within the slots.
use borrow.Author.Rules.{rules}
use mathlib.Core.Path.{ap}
use Prim.Native.Nat.{ℕ, ◌%◌}
use Rattle.state_table.specs.Table.{home_of}
use Rattle.state_table.proofs.home.Goals as goal

pub returns : goal.returns
unfolding home_of
returns c = (ap (λ (h : ℕ). h % 2048) c.of_state.ensures, search rules)
