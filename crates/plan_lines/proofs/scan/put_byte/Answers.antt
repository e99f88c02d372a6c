-- At a newline put_step writes the line's step; any other byte brings no step, and the area stays as it was.
use borrow.Author.Tests.{ne_eqb}
use Rattle.text.specs.Area.{written}
use Rattle.plan_lines.proofs.scan.put_byte.Goals as goal

pub returns-else-b-eq10 : goal.returns-else-b-eq10
unfolding written
returns-else-b-eq10 c = rw (ne_eqb _ 10 c.if-b-eq10.false)
