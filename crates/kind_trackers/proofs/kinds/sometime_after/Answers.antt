-- The two lines of the table in turn, by `then`.
use Rattle.writer.proofs.Putting.{then}
use Rattle.kind_trackers.proofs.kinds.sometime_after.Goals as goal

pub returns : goal.returns
returns c =
    then c.each_false-k.ensures c.put_effect.ensures
