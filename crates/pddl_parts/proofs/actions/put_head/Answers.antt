-- A word, the digits and a word are written in turn: then of Writing.
use Rattle.text.proofs.Writing.{then}
use borrow.Author.Rules.{rules}
use Rattle.pddl_parts.proofs.actions.put_head.Goals as goal

pub returns : goal.returns
returns c = record {
  wrote = then c.put_bytes-a.ensures (then c.put_decimal-b.ensures.wrote c.put_bytes.ensures);
  upper_bound = search rules;
}
