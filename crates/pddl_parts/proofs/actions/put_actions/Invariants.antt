-- The actions that are left give what is left of the text (`Looping`): each turn is `looped`, the end `all_done`.
use Prim.Native.Nat.{◌+◌, ◌*◌, ◌-◌, ◌≤◌}
use lib.ListN.{length}
use Rattle.pddl_parts.proofs.Emitting.{Looping}
use Rattle.pddl_parts.proofs.LineRows.{action_parts}
use Rattle.pddl_parts.proofs.actions.put_actions.Given as goal

abbrev pub invariant-loop-out : goal.invariant-loop-out
invariant-loop-out l = (l.k ≤ l.at + 160 * (l.i - l.from)) × (l.n ≤ l.i - l.from) × Looping action_parts l.rows.marks.now l.rows.values.now l.initial.out l.at l.from l.out l.k l.i l.n

abbrev pub decreases-loop-out : goal.decreases-loop-out
decreases-loop-out l = length l.rows.marks.now - l.i
