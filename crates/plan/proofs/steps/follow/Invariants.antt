-- The loop keeps the verdict on the steps to come, by `Running`; after the last one `finish` gives it.
use Rattle.plan.specs.Steps.{state_of}
use Rattle.plan.proofs.Running.{Running}
use Rattle.plan.proofs.steps.follow.Given as goal

abbrev pub invariant-loop-i : goal.invariant-loop-i
invariant-loop-i l = Running l.rows.marks.now l.rows.values.now l.places l.starts (state_of l.initial.p) l.plan l.p l.ms l.i
