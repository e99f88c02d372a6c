-- The rows that are left make up all of them: a loop over the condition, by `next_false` and `then`.
use Rattle.effects.specs.Effects.{guard_rows, changed_rows}
use Rattle.effects.proofs.FalseRows.{Falsified}
use Rattle.effects.proofs.each_false.Given as goal

abbrev pub invariant-loop-j : goal.invariant-loop-j
invariant-loop-j l = Falsified l.initial.out l.initial.k (guard_rows l.rows.marks.now l.rows.values.now l.e.guard) (changed_rows l.e.change) l.rows.marks.now l.rows.values.now l.e.condition.from l.e.condition.to l.out l.begun l.k l.j
