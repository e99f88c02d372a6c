-- The text so far and the list from the next row on are what the contract asks: each turn is `one_more`, the end `listed_all`.
use Rattle.pddl_parts.proofs.Listing.{Listing}
use Rattle.pddl_parts.proofs.conditions.put_list.Given as goal

abbrev pub invariant-loop-i : goal.invariant-loop-i
invariant-loop-i l = Listing l.initial.out l.at l.rows.marks.now l.rows.values.now l.from l.least l.most l.out l.k l.i
