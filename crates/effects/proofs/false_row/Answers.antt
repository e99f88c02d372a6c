-- A literal is denied, or a clause closes one effect and opens the next.
use Rattle.writer.proofs.Putting.{then}
use Rattle.effects.proofs.false_row.Goals as goal

pub returns : goal.returns
returns c =
    rw c.if-mark-ne-CLAUSE.false (then c.close_effect-k.ensures c.open_effect.ensures)
