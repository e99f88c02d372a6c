-- One effect after the other comes to those of an action, by `EffectRows`.
use Prim.Native.Nat.{◌-◌}
use lib.ListN.{length}
use Rattle.state.specs.Member.{member}
use Rattle.reading.proofs.EffectRows.{Gathering}
use Rattle.reading.proofs.effects.after.Given as goal

abbrev pub invariant-loop-i : goal.invariant-loop-i
invariant-loop-i l = Gathering (member l.s) l.rows.marks.now l.rows.values.now l.at l.g l.i

abbrev pub decreases-loop-i : goal.decreases-loop-i
decreases-loop-i l = length l.rows.marks.now - l.i
