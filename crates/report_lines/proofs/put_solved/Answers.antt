-- Words, steps, cost and newline are written in turn: then of Writing.
use Rattle.text.proofs.Writing.{then}
use Rattle.report_lines.specs.Lines.{solved_line}
use borrow.Author.Rules.{rules}
use Rattle.report_lines.proofs.put_solved.Goals as goal

pub returns : goal.returns
unfolding solved_line
returns c = record {
  wrote = then (then c.put_number-a.ensures.wrote c.put_decimal-b.ensures.wrote) c.put_byte.ensures;
  upper_bound = search rules;
}
