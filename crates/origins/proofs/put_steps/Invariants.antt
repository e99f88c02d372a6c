-- Step by step back, each action being stored before those that follow it, by `Ways`.
use Rattle.origins.proofs.Ways.{Written}
use Rattle.origins.proofs.put_steps.Given as goal

abbrev pub invariant-loop-k : goal.invariant-loop-k
invariant-loop-k l = Written l.words l.n l.place l.initial.plan l.steps l.plan l.k l.i
