-- A byte that fits is stored, one that does not is dropped: stored and dropped of Writing.
use Rattle.text.proofs.Writing.{stored, dropped}
use Rattle.text.proofs.put_byte.Goals as goal
use Rattle.text.proofs.put_byte.Goals.{then-at-out, else-at-out}

pub returns : goal.returns
returns c =
    let a = c.args in
    elim c.if-at-out.branch [
      | then-at-out w ↦ stored a.out.now a.at a.byte c.if-at-out.out w.out-is
      | else-at-out w ↦ dropped a.out.now a.at a.byte c.if-at-out.out w.if-at-out.false w.out-is
    ]
