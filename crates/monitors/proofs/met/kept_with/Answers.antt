-- The two branches compute.
use borrow.Author.Rules.{rules}
use Rattle.monitors.proofs.met.kept_with.Goals as goal

pub returns-then-kept-number : goal.returns-then-kept-number
returns-then-kept-number c = (rw c.if-kept-number.true, search rules)

pub returns-else-kept-number : goal.returns-else-kept-number
returns-else-kept-number c = (rw c.if-kept-number.false, search rules)
