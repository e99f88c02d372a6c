-- By the range of the mark.
use mathlib.Core.Bool.{and-false}
use borrow.Author.Tests.{le-leb, lt-leb}
use borrow.Author.Rules.{rules}
use Rattle.monitors.proofs.head_rows.Goals as goal

pub returns-in-17-to-18 : goal.returns-in-17-to-18
returns-in-17-to-18 c = let m = c.args.mark in rw (le-leb 17 m (search rules), le-leb m 18 (search rules))

pub returns-in_default : goal.returns-in_default
returns-in_default c = rw (lt-leb 17 c.args.mark (search rules))

pub returns-in_default-2 : goal.returns-in_default-2
returns-in_default-2 c = rw (lt-leb c.args.mark 18 (search rules), and-false)
