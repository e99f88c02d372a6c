-- The effect, and then the facts D that it deletes too, by `then`.
use Rattle.writer.proofs.Putting.{then}
use Rattle.kind_trackers.proofs.deadlines.put_reset.Goals as goal

pub returns : goal.returns
returns c =
    then c.put_effect-k.ensures c.put_deletes.ensures
