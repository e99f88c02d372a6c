-- A loop over the steps, by the laws of `Numbered`.
use Rattle.kind_trackers.specs.Rows.{onward_rows}
use Rattle.kind_trackers.proofs.Numbering.{Numbered}
use Rattle.kind_trackers.proofs.deadlines.onwards.Given as goal

abbrev pub invariant-loop-j : goal.invariant-loop-j
invariant-loop-j l = Numbered (onward_rows l.d) l.steps l.initial.out l.initial.k l.out l.k l.j
