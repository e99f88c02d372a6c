-- The walk from row i on answers as that from row `from` on: Kept of CheckSteps, which each plain row keeps by one_part.
use Rattle.task.proofs.CheckSteps.{Kept}
use Rattle.task.proofs.after_parts.Given as goal

abbrev pub invariant-loop-i : goal.invariant-loop-i
invariant-loop-i l = Kept l.z l.rows.marks.now l.rows.values.now l.w l.from l.i l.context
