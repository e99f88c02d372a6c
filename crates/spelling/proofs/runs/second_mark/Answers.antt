-- A literal's mark is at most LACKS.
use borrow.Author.Rules.{rules}
use borrow.Author.Tests.{le-leb, lt-leb}
use Rattle.task.specs.Marks.{LACKS}
use Rattle.spelling.proofs.runs.second_mark.Goals as goal

pub returns-then-mark-le-LACKS : goal.returns-then-mark-le-LACKS
returns-then-mark-le-LACKS c = rw (le-leb c.args.mark LACKS (search rules))

pub returns-else-mark-le-LACKS : goal.returns-else-mark-le-LACKS
returns-else-mark-le-LACKS c = rw (lt-leb c.args.mark LACKS (search rules))
