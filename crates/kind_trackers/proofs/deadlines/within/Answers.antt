-- The count and the effect in turn, by `then`.
use Rattle.writer.proofs.Putting.{then}
use Rattle.kind_trackers.proofs.deadlines.within.Goals as goal

pub returns : goal.returns
returns c =
    then c.put_count-k.ensures c.put_effect.ensures
