-- Two numbers with their words, and a newline, in turn: then of Writing.
use borrow.Author.Rules.{rules}
use Rattle.text.proofs.Writing.{then}
use Rattle.week_report.specs.Lines.{meeting_line}
use Rattle.week_report.proofs.put_meeting.Goals as goal

pub returns : goal.returns
unfolding meeting_line
returns c = record {
  wrote = then (then c.put_labelled-a.ensures.wrote c.put_labelled-b.ensures.wrote) c.put_byte.ensures;
  upper_bound = search rules;
}
