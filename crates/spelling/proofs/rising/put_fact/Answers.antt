-- The two rows in turn, by `then`.
use Rattle.writer.proofs.Putting.{then}
use Rattle.spelling.proofs.rising.put_fact.Goals as goal

pub returns : goal.returns
returns c =
    then c.put_if-k.ensures c.put_if.ensures
