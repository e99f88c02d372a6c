use mathlib.Core.Path.{ap, ◌∙◌}
use Prim.Native.Nat.{ℕ}
use lib.ListN.{get_or}
use Rattle.task.specs.TaskRows.{row}
use Rattle.translated_rows.specs.Further.{further_row}
use Rattle.translated_rows.proofs.FurtherRows.{one_more, all_rows}
use native.Mathlib.Omega.{arith}
use borrow.Author.Rules.{rules}
use Rattle.translated_rows.proofs.further.count.Goals as goal

pub loop-i-preserved : goal.loop-i-preserved
loop-i-preserved c =
    let a = c.args in
    one_more a.rows.now.marks.now a.rows.now.values.now a.at c.loop-i.d c.loop-i.i c.loop-i.invariant (search rules) c.count_row-d.result
    (c.count_row-d.ensures.0 ∙ ap (λ (x : ℕ). further_row (row (get_or a.rows.now.marks.now c.loop-i.i 0) x)) c.value.ensures) c.count_row-d.ensures.1

pub returns : goal.returns
returns c =
    let a = c.args in
    (all_rows a.rows.now.marks.now a.rows.now.values.now a.at c.loop-i.d c.loop-i.i c.loop-i.invariant (search rules), omega (arith, c.loop-i.invariant.few, c.loop-i.invariant.rows_left, c.args.rows.now.fit.few))
