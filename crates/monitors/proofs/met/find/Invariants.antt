-- The loop counts the rows from `at` on, by the laws of a row automaton (`Reading`).
use Rattle.monitors.proofs.Meeting.{Finding}
use Rattle.monitors.proofs.met.find.Given as goal

abbrev pub invariant-loop-i : goal.invariant-loop-i
invariant-loop-i l = Finding l.marks l.at l.ms l.f l.i
