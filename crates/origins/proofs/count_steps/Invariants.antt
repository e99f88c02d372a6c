-- Step by step back, by `Ways`.
use Rattle.origins.proofs.Ways.{Counted}
use Rattle.origins.proofs.count_steps.Given as goal

abbrev pub invariant-loop-d : goal.invariant-loop-d
invariant-loop-d l = Counted l.words l.n l.place l.d l.i
