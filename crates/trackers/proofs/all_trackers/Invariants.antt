-- The trackers that are left make up all of them: a loop over the preferences, by `tracked_on`.
use Rattle.trackers.proofs.Tracking.{Tracking}
use Rattle.trackers.proofs.all_trackers.Given as goal

abbrev pub invariant-loop-at : goal.invariant-loop-at
invariant-loop-at l = Tracking l.rows.marks.now l.rows.values.now l.last l.starts l.initial.out l.initial.k l.initial.s l.initial.d l.out l.k l.s l.d l.at-index
