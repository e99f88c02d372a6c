use Rattle.closings.proofs.ClosingRows.{closed_on, closed_all, closed_full}
use borrow.Author.Rules.{rules}
use Rattle.closings.proofs.put_closings.Goals as goal

pub returns-then-k-ge-OVERFULL : goal.returns-then-k-ge-OVERFULL
returns-then-k-ge-OVERFULL c =
    let a = c.args in
    closed_full a.rows.now.marks.now a.rows.now.values.now a.facts a.ended a.starts.now c.loop-at.invariant (search rules)

pub loop-at-preserved : goal.loop-at-preserved
loop-at-preserved c =
    let a = c.args in
    closed_on a.rows.now.marks.now a.rows.now.values.now a.facts a.ended a.starts.now c.loop-at.invariant (search rules) c.closing_at-k.auto.out c.closing_at-k.ensures

pub returns : goal.returns
returns c =
    let a = c.args in
    closed_all a.rows.now.marks.now a.rows.now.values.now a.facts a.ended a.starts.now c.loop-at.invariant (search rules)
