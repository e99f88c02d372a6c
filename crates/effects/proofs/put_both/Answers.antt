-- Two clauses in turn, by `then`.
use Rattle.writer.proofs.Putting.{then}
use Rattle.effects.proofs.put_both.Goals as goal

pub returns : goal.returns
returns c =
    then c.put_single-k.ensures c.put_single.ensures
