-- The word, the number and the place are written in turn, and then the newline: then of Writing.
use Rattle.text.specs.Text.{refused_line}
use Rattle.text.proofs.Writing.{then}
use borrow.Author.Rules.{rules}
use Rattle.text.proofs.put_refused.Goals as goal

pub returns : goal.returns
unfolding refused_line
returns c = record {
  wrote = then (then c.put_number-a.ensures.wrote c.put_decimal-b.ensures.wrote) c.put_byte.ensures;
  upper_bound = search rules;
}
