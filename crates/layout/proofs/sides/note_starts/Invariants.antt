-- The rows at which preferences begin, noted one a turn, by `noted_on`.
use mathlib.Core.Path.{◌≡◌}
use lib.ListN.{length}
use Rattle.layout.proofs.Starting.{Noting}
use Rattle.layout.proofs.sides.note_starts.Given as goal

abbrev pub invariant-loop-c : goal.invariant-loop-c
invariant-loop-c l = (length l.starts ≡ length l.initial.starts) × Noting l.marks l.at l.many l.starts l.c l.j
