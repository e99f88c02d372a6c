-- Two lines in turn: then of Writing.
use borrow.Author.Rules.{rules}
use Rattle.text.proofs.Writing.{then}
use Rattle.week_report.specs.Lines.{plans_line, solving_line}
use Rattle.week_report.proofs.put_counts.Goals as goal

pub returns : goal.returns
unfolding plans_line solving_line
returns c = record {
  wrote = then (then c.put_labelled-a.ensures.wrote c.put_byte-b.ensures) (then c.put_labelled-c.ensures.wrote c.put_byte.ensures);
  upper_bound = search rules;
}
