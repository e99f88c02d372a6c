-- The loop marks row by row, by the laws of a row automaton (`Reading`).
use mathlib.Core.Path.{◌≡◌}
use Prim.Native.Nat.{◌≤◌}
use lib.ListN.{length}
use Rattle.state.specs.Member.{member}
use Rattle.reading.specs.Effects.{mark_at}
use Rattle.reading.proofs.effects.mark_all.Given as goal

abbrev pub invariant-loop-i : goal.invariant-loop-i
invariant-loop-i l =
    (l.at ≤ l.i) × (l.i ≤ length l.rows.marks.now) × (mark_at l.mark l.fires (member l.f) l.rows.marks.now l.rows.values.now l.i ≡ mark_at l.mark l.fires (member l.initial.f) l.rows.marks.now l.rows.values.now l.at)
