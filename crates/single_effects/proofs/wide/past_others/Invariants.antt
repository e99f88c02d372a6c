-- Every turn passes eight rows by that open no effect: no_both of Seeking.
use Prim.Native.Nat.{◌-◌, ◌≤◌}
use lib.ListN.{length}
use Rattle.single_effects.specs.Whole.{NoEffects}
use Rattle.single_effects.proofs.wide.past_others.Given as goal

abbrev pub invariant-loop-i : goal.invariant-loop-i
invariant-loop-i l = (l.from ≤ l.i) × (l.i ≤ length l.marks) × NoEffects l.marks l.from l.i

abbrev pub decreases-loop-i : goal.decreases-loop-i
decreases-loop-i l = length l.marks - l.i
