-- Every clause before row i is true, and the reading goes on from there: each way on or out is a step of evaluate_at in Reader.
use mathlib.Core.Path.{◌≡◌}
use mathlib.Core.Bool.{true}
use Prim.Native.Nat.{◌+◌, ◌-◌, ◌≤◌}
use lib.ListN.{length}
use Rattle.state.specs.Member.{member}
use Rattle.reading.specs.Conditions.{reading, begin, evaluate_at}
use Rattle.reading.proofs.conditions.condition.Given as goal

abbrev pub invariant-loop-i : goal.invariant-loop-i
invariant-loop-i l =
    (l.at + l.looked ≤ l.i) × (l.looked ≤ length l.rows.marks.now)
    × (evaluate_at (member (record { low = l.low; high = l.high })) (reading true true l.looked) l.rows.marks.now l.rows.values.now l.i
    ≡ evaluate_at (member (record { low = l.low; high = l.high })) begin l.rows.marks.now l.rows.values.now l.at)

abbrev pub decreases-loop-i : goal.decreases-loop-i
decreases-loop-i l = length l.rows.marks.now - l.i
