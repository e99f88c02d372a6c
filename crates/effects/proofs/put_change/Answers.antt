-- The rows of each variant of the change.
use Rattle.writer.proofs.Putting.{then}
use Rattle.effects.proofs.put_change.Goals as goal

pub returns-in-AddBoth : goal.returns-in-AddBoth
returns-in-AddBoth c =
    rw c.in-AddBoth.is (then c.put_row-k.ensures c.put_row-in-AddBoth.ensures)
