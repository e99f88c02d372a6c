-- The two branches compute.
use borrow.Author.Tests.{le-leb, lt-leb}
use borrow.Author.Rules.{rules}
use Rattle.monitor.proofs.older.Goals as goal

pub returns-then-age-steps : goal.returns-then-age-steps
returns-then-age-steps c = let a = c.args in (rw (le-leb a.age a.steps (search rules)), search rules)

pub returns-else-age-steps : goal.returns-else-age-steps
returns-else-age-steps c = let a = c.args in (rw (lt-leb a.age a.steps (search rules)), search rules)
