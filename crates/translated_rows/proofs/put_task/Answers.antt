-- The preferences are noted (`placed`); the opening and the actions in turn make the task (`task_wrote`).
use native.Mathlib.Omega.{arith}
use lib.ListN.{take}
use lib.Seq.{length-take-le}
use Rattle.translated_rows.proofs.TaskRows.{placed, task_wrote}
use Rattle.translated_rows.proofs.put_task.Goals as goal

pub put_all_actions-requires : goal.put_all_actions-requires
put_all_actions-requires c =
    let a = c.args in
    let table = c.note_starts.new.starts in
    let P = a.z.preferences in
    let long = length-take-le P table (omega (arith, c.requires.2.few_preferences, c.note_starts.auto.starts)) in (
      c.put_opening-k.ensures.room,
      placed a.rows.now.marks.now a.rows.now.values.now a.z.facts a.z.preferences a.p c.requires.2 c.requires.1 (take P table) c.note_starts.ensures long,
    )

pub returns : goal.returns
returns c =
    let a = c.args in
    task_wrote a.rows.now.marks.now a.rows.now.values.now a.z.facts a.z.preferences a.p c.requires.2 c.requires.1
    c.put_opening-k.ensures c.put_all_actions.ensures
