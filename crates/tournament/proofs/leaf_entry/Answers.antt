-- The entry of the place, or 0.
use Rattle.tournament.proofs.leaf_entry.Goals as goal

pub returns-then-is_open : goal.returns-then-is_open
returns-then-is_open c = rw c.if-is_open.true c.entry_of.ensures
