-- What is left to pick makes up the choice; each turn is a clause (`turn`).
use Prim.Native.Nat.{◌-◌}
use Rattle.meaning.specs.Task.{Condition}
use Rattle.single_effects.specs.Effects.{Choosable, picked_rows}
use Rattle.single_effects.proofs.Picking.{Picking}
use Rattle.single_effects.proofs.choosing.put_literals.Given as goal

abbrev pub invariant-loop-i : goal.invariant-loop-i
invariant-loop-i l =
    (all : Condition) → Choosable l.rows.marks.now l.rows.values.now (record { from = l.initial.i; to = l.to }) l.initial.p all
    → Picking l.initial.out l.initial.k (picked_rows all l.initial.p.number) l.rows.marks.now l.rows.values.now l.i l.to l.p l.out l.k

abbrev pub decreases-loop-i : goal.decreases-loop-i
decreases-loop-i l = l.to - l.i
