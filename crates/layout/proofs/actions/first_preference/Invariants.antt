-- The first row that opens a preference, by the laws of a search (`Seeking`).
use mathlib.Core.Path.{◌≡◌}
use Prim.Native.Nat.{◌+◌, ◌≤◌}
use lib.ListN.{length, drop}
use Rattle.lists.specs.Lists.{take_until}
use Rattle.task.specs.File.{opens_preference}
use Rattle.layout.proofs.actions.first_preference.Given as goal

abbrev pub invariant-loop-i : goal.invariant-loop-i
invariant-loop-i l = (l.i ≤ length l.marks) × (l.i + length (take_until opens_preference (drop l.i l.marks)) ≡ length (take_until opens_preference l.marks))
