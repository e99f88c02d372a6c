-- One row, or none.
use borrow.Author.Rules.{rules}
use mathlib.Core.Path.{ap, sym}
use mathlib.Core.Bool.{Bool}
use Rattle.task.specs.TaskRows.{row}
use Rattle.writer.proofs.Putting.{as_rows, wrote_none}
use Rattle.canonical.specs.BySets.{when}
use Rattle.spelling.proofs.rising.put_if.Goals as goal

pub returns-then-wanted : goal.returns-then-wanted
returns-then-wanted c =
    let a = c.args in
    as_rows (ap (λ (x : Bool). when x (row a.mark a.fact)) (sym c.if-wanted.true)) c.put_row.ensures

pub returns : goal.returns
returns c =
    let a = c.args in
    as_rows (ap (λ (x : Bool). when x (row a.mark a.fact)) (sym c.if-wanted.false)) (wrote_none (search rules))
