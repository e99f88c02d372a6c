use Rattle.trackers.proofs.Tracking.{tracked_on, tracked_all, tracked_full}
use borrow.Author.Rules.{rules}
use Rattle.trackers.proofs.all_trackers.Goals as goal

pub returns-then-k-ge-OVERFULL : goal.returns-then-k-ge-OVERFULL
returns-then-k-ge-OVERFULL c =
    let a = c.args in
    tracked_full a.rows.now.marks.now a.rows.now.values.now a.last a.starts.now c.loop-at.invariant (search rules)

pub loop-at-preserved : goal.loop-at-preserved
loop-at-preserved c =
    let a = c.args in
    tracked_on a.rows.now.marks.now a.rows.now.values.now a.last a.starts.now c.loop-at.invariant (search rules)
    c.trackers_at-k.auto.out c.trackers_at-k.ensures c.further_at-d.ensures

pub returns : goal.returns
returns c =
    let a = c.args in
    tracked_all a.rows.now.marks.now a.rows.now.values.now a.last a.starts.now c.loop-at.invariant (search rules)
