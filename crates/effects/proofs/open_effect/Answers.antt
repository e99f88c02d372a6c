-- The opening row and the guard in turn, by `then`.
use Rattle.writer.proofs.Putting.{then}
use Rattle.effects.proofs.open_effect.Goals as goal

pub returns : goal.returns
returns c =
    then c.put_row-k.ensures c.put_guard.ensures
