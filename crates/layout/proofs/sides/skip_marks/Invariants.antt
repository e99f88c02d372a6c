-- The first row whose mark is not between the two: a loop over marks, by the laws of `end_at`.
use mathlib.Core.Path.{◌≡◌}
use Prim.Native.Nat.{◌≤◌}
use lib.ListN.{length}
use Rattle.layout.specs.Sides.{end_at}
use Rattle.layout.proofs.sides.skip_marks.Given as goal

abbrev pub invariant-loop-i : goal.invariant-loop-i
invariant-loop-i l = (l.from ≤ l.i) × (l.i ≤ length l.marks) × (end_at l.least l.most l.marks l.i ≡ end_at l.least l.most l.marks l.from)
