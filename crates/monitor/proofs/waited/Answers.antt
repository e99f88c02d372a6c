-- The branches compute, the last by `older`.
use borrow.Author.Rules.{rules}
use Rattle.monitor.proofs.waited.Goals as goal

pub returns-then-phi-m : goal.returns-then-phi-m
returns-then-phi-m c = (rw (c.if-psi.false, c.if-phi-m.true) c.older.ensures.0, c.older.ensures.1)

pub returns-else-phi-m : goal.returns-else-phi-m
returns-else-phi-m c = (rw (c.if-psi.false, c.if-phi-m.false), search rules)
