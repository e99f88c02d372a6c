-- A loop over the steps, by the laws of `Numbered`.
use Rattle.layout.specs.Sides.{part}
use Rattle.kind_trackers.specs.Rows.{wait_rows}
use Rattle.kind_trackers.proofs.Numbering.{Numbered}
use Rattle.kind_trackers.proofs.deadlines.put_waits.Given as goal

abbrev pub invariant-loop-j : goal.invariant-loop-j
invariant-loop-j l = Numbered (wait_rows l.f l.steps (part l.rows.marks.now l.rows.values.now l.psi)) l.steps l.initial.out l.initial.k l.out l.k l.j
