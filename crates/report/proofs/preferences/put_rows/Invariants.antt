-- The lines written and those of the rows from i on are all rows' lines: Listed of Listing, kept by next_row.
use Rattle.state.specs.Member.{bit}
use Rattle.report.proofs.Listing.{Listed}
use Rattle.report.proofs.preferences.put_rows.Given as goal

abbrev pub invariant-loop-i : goal.invariant-loop-i
invariant-loop-i l = Listed (bit l.met) l.rows.marks.now l.rows.values.now l.initial.out l.at l.out l.next.at l.next.number l.i
