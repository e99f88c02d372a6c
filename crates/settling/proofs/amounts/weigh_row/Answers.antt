-- A row counts where it opens a preference: the two branches compute.
use mathlib.Core.Path.{sym, ◌∙◌}
use borrow.Author.Rules.{rules}
use Rattle.settling.proofs.amounts.weigh_row.Goals as goal

pub returns-then-is_preference : goal.returns-then-is_preference
returns-then-is_preference c = record {
  result_value = c.weigh_one.ensures.by_index c.args.mark ∙ rw (sym c.is_preference.ensures ∙ c.if-is_preference.true);
  number_bound = search rules;
}

pub returns-else-is_preference : goal.returns-else-is_preference
returns-else-is_preference c = record {
  result_value = rw (sym c.is_preference.ensures ∙ c.if-is_preference.false);
  number_bound = search rules;
}
