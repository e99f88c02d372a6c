-- What is left to count from row i on is what the contract asks, by the laws of a row automaton (`Reading`).
use Rattle.single_effects.proofs.Counting.{Counting}
use Rattle.single_effects.proofs.shapes.count_choices.Given as goal

abbrev pub invariant-loop-i : goal.invariant-loop-i
invariant-loop-i l = Counting l.marks l.from l.t l.i
