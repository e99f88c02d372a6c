-- The START rows are read one by one, by the laws of a row automaton (`Reading`).
use mathlib.Core.Path.{◌≡◌}
use Rattle.state.specs.Member.{member, empty}
use Rattle.reading.specs.Opening.{open_at}
use Rattle.reading.proofs.opening.opening.Given as goal

abbrev pub invariant-loop-i : goal.invariant-loop-i
invariant-loop-i l = open_at (member l.s) l.rows.marks.now l.rows.values.now l.i ≡ open_at empty l.rows.marks.now l.rows.values.now 0
