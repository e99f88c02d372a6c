-- By whether the rule is lost.
use borrow.Author.Rules.{rules}
use Rattle.lost_run.proofs.rules.lost_of.Goals as goal

pub returns-then-r-due : goal.returns-then-r-due
returns-then-r-due c = (rw c.if-r-due.true, search rules)

pub returns-else-r-due : goal.returns-else-r-due
returns-else-r-due c = (rw c.if-r-due.false, search rules)
