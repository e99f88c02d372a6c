-- What is noted is where a clause begins and ends, or the row after the last.
use Prim.Native.Nat.{◌-◌, ◌≤◌}
use Rattle.single_effects.specs.Effects.{Known}
use Rattle.single_effects.proofs.choosing.find_longest.Given as goal

abbrev pub invariant-loop-i : goal.invariant-loop-i
invariant-loop-i l = (l.from ≤ l.end) × Known l.marks (record { from = l.from; to = l.end })

abbrev pub decreases-loop-i : goal.decreases-loop-i
decreases-loop-i l = l.to - l.i
