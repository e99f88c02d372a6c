-- The walk from row i on answers as the whole one: Reached of CheckSteps, kept by one_row and what after_parts promises; refusals by
-- no_mark and no_value.
use Prim.Native.Nat.{◌-◌}
use lib.ListN.{length}
use Rattle.task.proofs.CheckSteps.{Reached}
use Rattle.task.proofs.walk_rows.Given as goal

abbrev pub invariant-loop-i : goal.invariant-loop-i
invariant-loop-i l = Reached l.z l.rows.marks.now l.rows.values.now l.w l.i

abbrev pub decreases-loop-i : goal.decreases-loop-i
decreases-loop-i l = length l.rows.marks.now - l.i
