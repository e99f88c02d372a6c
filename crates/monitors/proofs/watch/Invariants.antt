-- One monitor after the other sees the state, by the laws of `Watching`.
use Prim.Native.Nat.{◌-◌}
use lib.ListN.{length}
use Rattle.state.specs.Member.{member}
use Rattle.monitors.proofs.Watching.{Watching}
use Rattle.monitors.proofs.watch.Given as goal

abbrev pub invariant-loop-i : goal.invariant-loop-i
invariant-loop-i l = Watching l.rows.marks.now l.rows.values.now l.at l.last (member l.s) l.initial.ms l.ms l.looked l.k l.i

abbrev pub decreases-loop-i : goal.decreases-loop-i
decreases-loop-i l = length l.rows.marks.now - l.i
