-- Entry k is the row of action k: one row more is the law of `Noting`.
use Rattle.layout.proofs.Noting.{Noting}
use Rattle.layout.proofs.actions.note_actions.Given as goal

abbrev pub invariant-loop-i : goal.invariant-loop-i
invariant-loop-i l = Noting l.marks l.initial.starts l.starts l.c l.i
