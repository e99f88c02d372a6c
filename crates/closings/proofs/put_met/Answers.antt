-- Its two literals in turn, by `then`.
use Rattle.writer.proofs.Putting.{then}
use Rattle.closings.proofs.put_met.Goals as goal

pub returns-in-AtMostOnce : goal.returns-in-AtMostOnce
returns-in-AtMostOnce c =
    rw c.in-AtMostOnce.is (then c.put_single-k.ensures c.put_row.ensures)
