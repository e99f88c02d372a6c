use borrow.Author.Rules.{rules}
use Rattle.week_report.proofs.Listing.{no_lines, next_line_lem}
use Rattle.week_report.proofs.put_meetings.Goals as goal

pub loop-k-init : goal.loop-k-init
loop-k-init c = let a = c.args in no_lines a.counts.now a.out.now a.at

pub loop-k-preserved : goal.loop-k-preserved
loop-k-preserved c =
    let a = c.args in
    next_line_lem a.counts.now a.out.now a.at c.loop-k.out c.loop-k.p c.loop-k.k c.loop-k.invariant c.put_meeting-p.result
    c.put_meeting-p.new.out (search rules) c.put_meeting-p.ensures.wrote (search rules)
