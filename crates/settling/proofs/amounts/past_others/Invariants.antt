-- Every turn passes eight rows by whose marks are below GOAL: Passing of Weighing, kept by eight_more.
use Prim.Native.Nat.{◌-◌}
use lib.ListN.{length}
use Rattle.settling.proofs.Weighing.{Passing}
use Rattle.settling.proofs.amounts.past_others.Given as goal

abbrev pub invariant-loop-i : goal.invariant-loop-i
invariant-loop-i l = Passing l.marks l.from l.i

abbrev pub decreases-loop-i : goal.decreases-loop-i
decreases-loop-i l = length l.marks - l.i
