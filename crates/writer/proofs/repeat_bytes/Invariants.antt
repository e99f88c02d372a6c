-- One byte more in each turn, by `copied_on`: those that are read lie below the run, and are as they were (`sets_below`).
use Rattle.writer.proofs.Blocks.{Copying}
use Rattle.writer.proofs.repeat_bytes.Given as goal

abbrev pub invariant-loop-j : goal.invariant-loop-j
invariant-loop-j l = Copying l.initial.out l.initial.out l.at l.from l.many l.out l.j
