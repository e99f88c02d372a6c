-- The lines in turn: then of Writing.
use Rattle.text.proofs.Writing.{then}
use Rattle.week_report.specs.Lines.{metric_line}
use Rattle.week_report.proofs.Listing.{same_counts}
use Rattle.week_report.proofs.put_figures.Goals as goal

pub returns : goal.returns
unfolding metric_line
returns c =
    then (then c.put_counts-a.ensures.wrote c.put_metrics-b.ensures.wrote)
    (same_counts _ _ c.front.ensures c.put_meetings.ensures)
