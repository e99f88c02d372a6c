-- Two rows in turn, by `then`.
use Rattle.writer.proofs.Putting.{then}
use Rattle.closings.proofs.put_closed.Goals as goal

pub returns : goal.returns
returns c =
    then c.put_row-k.ensures c.put_row.ensures
