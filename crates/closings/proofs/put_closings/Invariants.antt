-- What is left makes up all of it: a loop over the preferences, by `closed_on`.
use Rattle.closings.proofs.ClosingRows.{Closed}
use Rattle.closings.proofs.put_closings.Given as goal

abbrev pub invariant-loop-at : goal.invariant-loop-at
invariant-loop-at l = Closed l.rows.marks.now l.rows.values.now l.facts l.ended l.starts l.initial.out l.initial.k l.initial.s l.out l.k l.s l.at-index
