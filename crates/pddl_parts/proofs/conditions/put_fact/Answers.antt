-- A word, the digits and a bracket are written in turn: then of Writing.
use Rattle.text.proofs.Writing.{then}
use borrow.Author.Rules.{rules}
use Rattle.pddl_parts.proofs.conditions.put_fact.Goals as goal

pub returns : goal.returns
returns c = record {
  wrote = then c.put_bytes-a.ensures (then c.put_decimal-b.ensures.wrote c.put_byte.ensures);
  upper_bound = search rules;
}
