-- One byte more in each turn, by `copied_on`.
use Rattle.writer.proofs.Blocks.{Copying}
use Rattle.writer.proofs.copy_bytes.Given as goal

abbrev pub invariant-loop-j : goal.invariant-loop-j
invariant-loop-j l = Copying l.initial.out l.source l.at l.from l.many l.out l.j
