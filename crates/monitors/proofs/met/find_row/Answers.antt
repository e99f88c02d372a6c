-- A row counts where it opens a preference: the two branches compute.
use mathlib.Core.Path.{sym, ◌∙◌}
use borrow.Author.Rules.{rules}
use Rattle.monitors.proofs.met.find_row.Goals as goal

pub returns-then-is_preference : goal.returns-then-is_preference
returns-then-is_preference c = record {
  by_index = λ v. c.find_one.ensures.by_index v ∙ rw (sym c.is_preference.ensures ∙ c.if-is_preference.true);
  number_bound = search rules;
}

pub returns-else-is_preference : goal.returns-else-is_preference
returns-else-is_preference c = record {
  by_index = λ v. rw (sym c.is_preference.ensures ∙ c.if-is_preference.false);
  number_bound = search rules;
}
