-- The loop counts all rows but those passed by, by the laws of a row automaton (`Reading`) and passed_by of Weighing.
use Prim.Native.Nat.{◌-◌}
use lib.ListN.{length}
use Rattle.state.specs.Member.{bit}
use Rattle.settling.proofs.Weighing.{Weighing}
use Rattle.settling.proofs.amounts.weigh.Given as goal

abbrev pub invariant-loop-i : goal.invariant-loop-i
invariant-loop-i l = Weighing l.rows.marks.now l.rows.values.now (bit l.met) l.t l.i

abbrev pub decreases-loop-i : goal.decreases-loop-i
decreases-loop-i l = length l.rows.marks.now - l.i
