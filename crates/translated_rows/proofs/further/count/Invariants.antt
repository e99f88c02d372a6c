-- A loop over the rows, by `one_more`.
use Rattle.translated_rows.proofs.FurtherRows.{Counting}
use Rattle.translated_rows.proofs.further.count.Given as goal

abbrev pub invariant-loop-i : goal.invariant-loop-i
invariant-loop-i l = Counting l.rows.marks.now l.rows.values.now l.at l.d l.i
