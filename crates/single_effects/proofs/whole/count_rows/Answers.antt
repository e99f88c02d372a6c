-- Written into a file of no rows, the new task's rows are counted.
use Rattle.single_effects.proofs.whole.count_rows.Goals as goal

pub returns : goal.returns
returns c = λ t N. (c.put_task-k.ensures t N).next
