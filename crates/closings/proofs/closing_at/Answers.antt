-- Collect and forgo by the kind, the mark and the weight that were read; none where there is no row.
use mathlib.Core.List.{[]}
use lib.ListN.{length}
use borrow.Author.Tests.{le-leb, lt-leb}
use Rattle.writer.proofs.Putting.{as_rows, wrote_none}
use Rattle.closings.specs.Closings.{preference_closings}
use borrow.Author.Rules.{rules}
use Rattle.closings.proofs.closing_at.Goals as goal

pub returns-then-rows-at : goal.returns-then-rows-at
returns-then-rows-at c =
    let a = c.args in
    rw (le-leb (length a.rows.now.marks.now) a.at (search rules)) (wrote_none (search rules))

pub returns : goal.returns
returns c =
    let a = c.args in
    rw (lt-leb (length a.rows.now.marks.now) a.at (search rules))
    (as_rows
    (λ i. preference_closings a.first a.s a.ended (record { kind = c.kind_at-kind.ensures.result_value i; hard = c.opens_hard-hard.ensures i; weight = c.value-weight.ensures i; first = []; second = [] }))
    c.put_closing.ensures)
