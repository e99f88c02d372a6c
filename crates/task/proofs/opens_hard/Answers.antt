-- Below 16 no mark opens a hard preference: below_hard of Values; from 16 on opens_soft answers for the mark less 16.
use mathlib.Core.Path.{sym}
use borrow.Author.Rules.{rules}
use Rattle.task.proofs.Values.{below_hard}
use Rattle.task.proofs.opens_hard.Goals as goal

pub returns-then-mark-lt-HARD : goal.returns-then-mark-lt-HARD
returns-then-mark-lt-HARD c = sym (below_hard c.args.mark (search rules))
