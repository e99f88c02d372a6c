-- The code tests as `mark_at` does.
use borrow.Author.Tests.{lt-ltb, le-ltb}
use lib.ListN.{length}
use borrow.Author.Rules.{rules}
use Rattle.pddl_parts.proofs.conditions.has_mark.Goals as goal

pub returns-then-marks-i : goal.returns-then-marks-i
returns-then-marks-i c = let a = c.args in rw (le-ltb a.i (length a.marks.now) c.if-marks-i.true)

pub returns : goal.returns
returns c = let a = c.args in rw (lt-ltb a.i (length a.marks.now) (search rules))
