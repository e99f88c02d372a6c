-- Each branch writes the text that `row_text` has for its test.
use borrow.Author.Rules.{rules}
use Rattle.pddl_parts.proofs.conditions.put_row.Goals as goal

pub returns-then-mark : goal.returns-then-mark
returns-then-mark c =
    rw c.if-mark.true (record {
      wrote = c.put_denied.ensures.wrote;
      upper_bound = search rules;
    })

pub returns-else-mark : goal.returns-else-mark
returns-else-mark c =
    rw c.if-mark.false (record {
      wrote = c.put_fact.ensures.wrote;
      upper_bound = search rules;
    })
