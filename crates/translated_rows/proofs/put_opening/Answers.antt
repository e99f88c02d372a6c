-- The parts in turn, by `then`.
use Rattle.writer.proofs.Putting.{then}
use Rattle.translated_rows.proofs.put_opening.Goals as goal

pub returns : goal.returns
returns c =
    then c.copy_rows-k.ensures (then c.put_row-k.ensures (then c.copy_rows-k-2.ensures (then c.put_single-k.ensures c.put_all_closed.ensures)))
