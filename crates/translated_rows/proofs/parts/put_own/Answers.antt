-- The parts of the action in turn, by `then`.
use Rattle.writer.proofs.Putting.{then}
use Rattle.translated_rows.proofs.parts.put_own.Goals as goal

pub returns : goal.returns
returns c =
    then c.copy_rows-k.ensures (then c.put_single-k.ensures c.copy_rows.ensures)
