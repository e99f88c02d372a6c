-- No effect before row i has too many choices; each turn is a piece of the task (`Seeking`).
use mathlib.Core.Path.{◌≡◌}
use mathlib.Core.List.{List}
use Prim.Native.Nat.{ℕ, ◌-◌, ◌≤◌}
use lib.ListN.{length}
use Rattle.meaning.specs.Task.{Task}
use Rattle.task.specs.TaskRows.{task_rows}
use Rattle.task.specs.File.{paired}
use Rattle.single_effects.specs.Whole.{NoEffects}
use Rattle.single_effects.proofs.Seeking.{Seeking}
use Rattle.single_effects.proofs.wide.find_wide.Given as goal

abbrev pub invariant-loop-i : goal.invariant-loop-i
invariant-loop-i l =
    ((vs : List ℕ) (t : Task) → paired l.marks vs ≡ task_rows t → Seeking l.marks vs t l.i) × (l.last ≤ length l.marks) × NoEffects l.marks l.last l.i

abbrev pub decreases-loop-i : goal.decreases-loop-i
decreases-loop-i l = length l.marks - l.i
