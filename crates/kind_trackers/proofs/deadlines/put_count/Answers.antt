-- Two rows and the loop in turn, by `then`.
use Rattle.writer.proofs.Putting.{then}
use Rattle.kind_trackers.proofs.deadlines.put_count.Goals as goal

pub returns : goal.returns
returns c =
    then c.put_row-k.ensures (then c.put_row-k-2.ensures c.onwards.ensures)
