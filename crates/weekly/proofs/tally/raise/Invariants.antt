-- Each turn raises one count, by `Counts`.
use Rattle.state.specs.Member.{bit}
use Rattle.weekly.proofs.Counts.{Raising}
use Rattle.weekly.proofs.tally.raise.Given as goal

abbrev pub invariant-loop-k : goal.invariant-loop-k
invariant-loop-k l = Raising (bit l.met) l.initial.meeting l.meeting l.k
