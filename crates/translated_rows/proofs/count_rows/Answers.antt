-- What put_task counts.
use Rattle.translated_rows.proofs.count_rows.Goals as goal

pub returns : goal.returns
returns c = c.put_task.ensures.next
