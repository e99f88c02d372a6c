-- The parts of the effect in turn, by `then`.
use Rattle.writer.proofs.Putting.{then}
use Rattle.effects.proofs.put_effect.Goals as goal

pub returns : goal.returns
returns c =
    then c.open_effect-k.ensures (then c.copy_rows-k.ensures c.put_change.ensures)
