-- What is left from row i on makes up the whole spelling: a run by `next_run`, any other row by `next_row`.
use Prim.Native.Nat.{◌-◌}
use lib.ListN.{length, drop}
use Rattle.task.specs.File.{paired}
use Rattle.spelling.specs.Spelled.{outside, spelled_from}
use Rattle.spelling.proofs.RisingRows.{Writing}
use Rattle.spelling.proofs.whole.put_task.Given as goal

abbrev pub invariant-loop-i : goal.invariant-loop-i
invariant-loop-i l =
    Writing l.initial.out l.initial.k (spelled_from outside (paired l.rows.marks.now l.rows.values.now)) l.out l.k (spelled_from outside (drop l.i (paired l.rows.marks.now l.rows.values.now)))

abbrev pub decreases-loop-i : goal.decreases-loop-i
decreases-loop-i l = length l.rows.marks.now - l.i
