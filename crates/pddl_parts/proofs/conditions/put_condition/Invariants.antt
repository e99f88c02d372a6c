-- The clauses that are left give what is left of the text (`Looping`): each turn is `looped`, and `enclose` puts `(and` and `)` about them.
use mathlib.Core.Path.{◌≡◌}
use Prim.Native.Nat.{ℕ, ◌+◌, ◌*◌, ◌-◌, ◌≤◌}
use lib.ListN.{length}
use Rattle.pddl_parts.proofs.Emitting.{Looping}
use Rattle.pddl_parts.proofs.ClauseRows.{clause_parts}
use Rattle.pddl_parts.proofs.conditions.put_condition.Given as goal

abbrev pub invariant-loop-out : goal.invariant-loop-out
invariant-loop-out l = (l.k ≤ l.initial.k + 31 * (l.i - l.from)) × (l.initial.k ≡ l.at + 4) × (n : ℕ) × Looping clause_parts l.rows.marks.now l.rows.values.now l.initial.out l.initial.k l.from l.out l.k l.i n

abbrev pub decreases-loop-out : goal.decreases-loop-out
decreases-loop-out l = length l.rows.marks.now - l.i
