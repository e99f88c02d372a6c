-- The three lines of the table in turn, by `then`.
use Rattle.writer.proofs.Putting.{then}
use Rattle.kind_trackers.proofs.kinds.at_most_once.Goals as goal

pub returns : goal.returns
returns c =
    then c.put_effect-k.ensures (then c.each_false-k.ensures c.put_effect.ensures)
