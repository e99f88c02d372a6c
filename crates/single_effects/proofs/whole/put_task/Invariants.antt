-- What is left makes up the rows of the new task; each turn is a piece of the task (`Rewriting`).
use Prim.Native.Nat.{◌-◌}
use Rattle.meaning.specs.Task.{Task}
use Rattle.single_effects.specs.Whole.{Narrow}
use Rattle.single_effects.proofs.Rewriting.{Rewriting}
use Rattle.single_effects.proofs.whole.put_task.Given as goal

abbrev pub invariant-loop-i : goal.invariant-loop-i
invariant-loop-i l = (t : Task) → Narrow l.rows.marks.now l.rows.values.now t → Rewriting l.initial.out l.initial.k t l.rows.marks.now l.rows.values.now l.from l.i l.out l.k

abbrev pub decreases-loop-i : goal.decreases-loop-i
decreases-loop-i l = l.last - l.i
