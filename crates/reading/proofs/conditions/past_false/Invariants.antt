-- False literals are passed one by one, by `Reader`.
use mathlib.Core.Path.{◌≡◌}
use mathlib.Core.Bool.{true, false}
use Prim.Native.Nat.{ℕ, ◌+◌, ◌-◌, ◌≤◌}
use lib.ListN.{length}
use Rattle.state.specs.Member.{member}
use Rattle.reading.specs.Conditions.{reading, evaluate_at}
use Rattle.reading.proofs.conditions.past_false.Given as goal

abbrev pub invariant-loop-n : goal.invariant-loop-n
invariant-loop-n l =
    (l.at + l.n ≤ length l.rows.marks.now)
    × ((m : ℕ)
    → evaluate_at (member (record { low = l.low; high = l.high })) (reading true false m) l.rows.marks.now l.rows.values.now l.at
    ≡ evaluate_at (member (record { low = l.low; high = l.high })) (reading true false (m + (l.at + l.n - l.at))) l.rows.marks.now l.rows.values.now (l.at + l.n))
