-- A row is put by store_row, or the file has no room for it (`wrote_past`).
use mathlib.Core.List.{[], ◌∷◌}
use Rattle.task.specs.TaskRows.{row}
use Rattle.writer.proofs.Putting.{wrote_past}
use borrow.Author.Rules.{rules}
use Rattle.writer.proofs.put_row.Goals as goal

pub returns-then-c : goal.returns-then-c
returns-then-c c =
    let a = c.args in
    wrote_past a.out.now a.c (row a.mark a.value ∷ []) c.advance_by.result (search rules) (search rules) c.advance_by.ensures
