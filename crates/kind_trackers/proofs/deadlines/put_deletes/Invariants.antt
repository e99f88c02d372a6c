-- A loop over the steps, by the laws of `Numbered`.
use Rattle.kind_trackers.proofs.Numbering.{Numbered, deletes}
use Rattle.kind_trackers.proofs.deadlines.put_deletes.Given as goal

abbrev pub invariant-loop-j : goal.invariant-loop-j
invariant-loop-j l = Numbered (deletes l.d) l.steps l.initial.out l.initial.k l.out l.k l.j
