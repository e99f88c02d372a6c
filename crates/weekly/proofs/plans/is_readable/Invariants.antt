-- The loop looks at every plan, by `Reading`.
use Rattle.weekly.proofs.Reading.{Reading}
use Rattle.weekly.proofs.plans.is_readable.Given as goal

abbrev pub invariant-loop-i : goal.invariant-loop-i
invariant-loop-i l = Reading l.plans l.n l.i
