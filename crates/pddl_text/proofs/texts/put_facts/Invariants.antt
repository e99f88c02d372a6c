-- The facts below i are written when i is reached: each turn is `fact_more`.
use Prim.Native.Nat.{◌+◌, ◌*◌, ◌≤◌}
use Rattle.lists.specs.Lists.{range}
use Rattle.text.specs.Area.{Wrote}
use Rattle.pddl_parts.specs.Pddl.{spaced, fact_text}
use Rattle.pddl_text.proofs.texts.put_facts.Given as goal

abbrev pub invariant-loop-i : goal.invariant-loop-i
invariant-loop-i l = (l.k ≤ l.at + 24 * l.i) × Wrote l.initial.out l.at (spaced fact_text (range 0 l.i)) l.k l.out
