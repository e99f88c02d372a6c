-- The way of the state is followed slot by slot, by `Probing`.
use Rattle.state_table.proofs.Probing.{Passed}
use Rattle.state_table.proofs.probe.Given as goal

abbrev pub invariant-loop-d : goal.invariant-loop-d
invariant-loop-d l = Passed l.table l.words l.s l.d
