-- The two lines of the table in turn, by `then`.
use Rattle.writer.proofs.Putting.{then}
use Rattle.kind_trackers.proofs.kinds.sometime_before.Goals as goal

pub returns : goal.returns
returns c =
    then c.put_effect-k.ensures c.put_effect.ensures
