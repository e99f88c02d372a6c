-- Three parts in turn, by `then`.
use Rattle.writer.proofs.Putting.{then}
use Rattle.kind_trackers.proofs.deadlines.put_onward.Goals as goal

pub returns : goal.returns
returns c =
    then c.put_row-k.ensures (then c.put_single-k.ensures c.put_row.ensures)
