-- Each turn writes one line, by `Listing`.
use Rattle.week_report.proofs.Listing.{Listed}
use Rattle.week_report.proofs.put_meetings.Given as goal

abbrev pub invariant-loop-k : goal.invariant-loop-k
invariant-loop-k l = Listed l.counts l.initial.out l.at l.out l.p l.k
