-- The outcome and then what a hard one has, by `then`.
use Rattle.writer.proofs.Putting.{then}
use Rattle.closings.proofs.put_forgone.Goals as goal

pub returns : goal.returns
returns c =
    then c.put_missed-k.ensures c.put_never.ensures
