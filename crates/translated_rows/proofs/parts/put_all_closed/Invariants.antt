-- The clauses that are left make up all of them: a loop over the facts C, by `ending_on`.
use Prim.Native.Nat.{◌-◌}
use Rattle.translated_rows.proofs.PartRows.{AllClosing}
use Rattle.translated_rows.proofs.parts.put_all_closed.Given as goal

abbrev pub invariant-loop-fact : goal.invariant-loop-fact
invariant-loop-fact l = AllClosing l.facts l.ended l.initial.out l.initial.k l.out l.k l.fact

abbrev pub decreases-loop-fact : goal.decreases-loop-fact
decreases-loop-fact l = l.ended - l.fact
