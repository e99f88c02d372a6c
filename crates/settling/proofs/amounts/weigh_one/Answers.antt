-- One preference more, met or not: the two branches compute.
use borrow.Author.Rules.{rules}
use Rattle.settling.proofs.amounts.weigh_one.Goals as goal

pub returns-then-is_met : goal.returns-then-is_met
returns-then-is_met c = record {
  by_index = λ k. rw (← c.is_met.ensures, c.if-is_met.true);
  number_bound = search rules;
}

pub returns-else-is_met : goal.returns-else-is_met
returns-else-is_met c = record {
  by_index = λ k. rw (← c.is_met.ensures, c.if-is_met.false);
  number_bound = search rules;
}
