-- Of a metric put_solved writes the line, of none put_number does.
use borrow.Author.Rules.{rules}
use Rattle.paid_line.specs.Paid.{unsolved_line}
use Rattle.paid_line.proofs.put_held.Goals as goal

pub returns-in-None : goal.returns-in-None
unfolding unsolved_line
returns-in-None c = record {
  wrote = rw c.in-None.is c.put_number.ensures.wrote;
  upper_bound = search rules;
}
