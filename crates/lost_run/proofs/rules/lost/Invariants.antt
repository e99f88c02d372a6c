-- The loop keeps the sum of the first k rules, by `Summing`.
use Rattle.lost_run.proofs.Summing.{Summed}
use Rattle.lost_run.proofs.rules.lost.Given as goal

abbrev pub invariant-loop-k : goal.invariant-loop-k
invariant-loop-k l = Summed l.rows.marks.now l.rows.values.now l.rules l.ms l.closed l.sum l.k
