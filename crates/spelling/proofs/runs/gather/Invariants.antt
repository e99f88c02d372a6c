-- The rows of a run are taken in one by one, by the laws of a row automaton (`Reading`).
use mathlib.Core.Path.{◌≡◌}
use Prim.Native.Nat.{max, ◌≤◌}
use lib.ListN.{length}
use Rattle.spelling.specs.Runs.{none, sets_in, gather_at}
use Rattle.spelling.proofs.runs.gather.Given as goal

abbrev pub invariant-loop-i : goal.invariant-loop-i
invariant-loop-i l = (gather_at l.a l.b (sets_in l.words) l.rows.marks.now l.rows.values.now l.i ≡ gather_at l.a l.b none l.rows.marks.now l.rows.values.now l.from) × (length l.words ≡ 4) × (l.i ≤ max l.from (length l.rows.marks.now))
