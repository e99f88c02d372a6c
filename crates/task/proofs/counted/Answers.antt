-- One more where the flag is true, the same number where it is false: the two cases of count.
use Rattle.task.proofs.counted.Goals as goal

pub returns-then-b : goal.returns-then-b
returns-then-b c = rw c.if-b.true
