-- The parts in turn, by `then`, with the preference before it if it is not the first.
use Rattle.writer.proofs.Putting.{then}
use Rattle.closings.proofs.open_closing.Goals as goal

pub returns-then-x : goal.returns-then-x
returns-then-x c =
    rw c.if-x.true (then c.put_row-k.ensures (then c.put_single-k.ensures c.put_single.ensures))

pub returns : goal.returns
returns c =
    rw c.if-x.false (then c.put_row-k.ensures (then c.put_single-k.ensures (then c.put_single-k-2.ensures c.put_single-2.ensures)))
