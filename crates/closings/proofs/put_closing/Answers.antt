-- Collect and then forgo, each of three parts, by `then`.
use Rattle.writer.proofs.Putting.{then}
use Rattle.closings.proofs.put_closing.Goals as goal

pub returns : goal.returns
returns c =
    then (then c.open_closing-k.ensures (then c.put_met-k.ensures c.put_closed-k.ensures))
    (then c.open_closing-k-2.ensures (then c.put_forgone-k.ensures c.put_closed.ensures))
