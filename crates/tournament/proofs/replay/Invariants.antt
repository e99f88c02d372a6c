-- Game by game towards the root, by `Games`.
use Rattle.tournament.proofs.Games.{Replaying}
use Rattle.tournament.proofs.replay.Given as goal

abbrev pub invariant-loop-i : goal.invariant-loop-i
invariant-loop-i l = Replaying l.initial.tree l.words l.k l.tree l.i

abbrev pub decreases-loop-i : goal.decreases-loop-i
decreases-loop-i l = l.i
