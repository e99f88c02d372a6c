-- Without room the rows are counted (`as_many`); else the choices that are left make up all of them (`next_picked`).
use Rattle.meaning.specs.Task.{Effect}
use Rattle.single_effects.specs.Effects.{EffectAt}
use Rattle.single_effects.proofs.ByChoice.{Repeating}
use Rattle.single_effects.proofs.choosing.put_effect.Given as goal

abbrev pub invariant-loop-j : goal.invariant-loop-j
invariant-loop-j l = (e : Effect) → EffectAt l.rows.marks.now l.rows.values.now l.at l.s e → Repeating l.initial.out l.initial.k e l.choices l.out l.j l.k
