-- The two branches compute.
use borrow.Author.Tests.{ne_eqb}
use Rattle.monitor.proofs.is_due.Goals as goal

pub returns-then-steps-eq0 : goal.returns-then-steps-eq0
returns-then-steps-eq0 c = rw c.if-steps-eq0.true

pub returns-else-steps-eq0 : goal.returns-else-steps-eq0
returns-else-steps-eq0 c = rw (ne_eqb c.args.steps 0 c.if-steps-eq0.false)
