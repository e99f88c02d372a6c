-- The rows of end and then the trackers, by `then`.
use Rattle.writer.proofs.Putting.{then}
use Rattle.translated_rows.proofs.parts.put_end.Goals as goal

pub returns : goal.returns
returns c =
    then c.put_row-k.ensures (then c.put_single-k.ensures (then c.put_row-k-2.ensures (then c.put_row-k-3.ensures (then c.put_row-k-4.ensures c.all_trackers.ensures))))
