-- Marks from EFFECT to DELETE are in the range, those under and over it are not.
use borrow.Author.Rules.{rules}
use borrow.Author.Tests.{le-leb, lt-leb}
use mathlib.Core.Bool.{and-false}
use Rattle.task.proofs.is_part.Goals as goal

pub returns-in-2-to-7 : goal.returns-in-2-to-7
returns-in-2-to-7 c = rw (le-leb 2 c.args.mark (search rules), le-leb c.args.mark 7 (search rules))

pub returns-in_default : goal.returns-in_default
returns-in_default c = rw (lt-leb 2 c.args.mark (search rules))

pub returns-in_default-2 : goal.returns-in_default-2
returns-in_default-2 c = rw (lt-leb c.args.mark 7 (search rules), and-false)
