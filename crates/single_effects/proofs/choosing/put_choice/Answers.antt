-- EFFECT, the choice of the condition, and the changes: the rows of one effect (`one_effect_lem`).
use mathlib.Core.Path.{ap, ◌∙◌}
use mathlib.Core.List.{List, [], ◌∷◌, ◌++◌}
use Rattle.task.specs.Marks.{EFFECT}
use Rattle.task.specs.TaskRows.{Row, row}
use Rattle.writer.proofs.Putting.{then, as_rows}
use Rattle.single_effects.specs.Effects.{picked_rows}
use Rattle.single_effects.proofs.ByChoice.{choosable, one_effect_lem}
use borrow.Author.Rules.{rules}
use Rattle.single_effects.proofs.choosing.put_choice.Goals as goal

pub overflow_cast-p : goal.overflow_cast-p
overflow_cast-p c = let few = c.requires.effect_at.1.few in search rules

pub overflow_cast-p-2 : goal.overflow_cast-p-2
overflow_cast-p-2 c = let few = c.requires.effect_at.1.few in search rules

pub put_literals-k-requires : goal.put_literals-k-requires
put_literals-k-requires c = record {
  room = (c.put_row-k.ensures.room, c.requires.room.2);
  choosable = (c.requires.effect_at.0.condition, choosable c.requires.effect_at.1 c.args.j c.requires.room.1);
}

pub copy_rows-requires : goal.copy_rows-requires
copy_rows-requires c =
    let w = c.put_literals-k.ensures c.requires.effect_at.0.condition (choosable c.requires.effect_at.1 c.args.j c.requires.room.1) in
    (w.room, c.requires.effect_at.1.order.inside)

pub returns : goal.returns
returns c = λ e E.
    let a = c.args in
    as_rows (ap (λ (xs : List Row). (row EFFECT 0 ∷ []) ++ picked_rows e.condition a.j ++ xs) E.changes ∙ one_effect_lem e a.j)
    (then (then c.put_row-k.ensures (c.put_literals-k.ensures e.condition (choosable E a.j c.requires.room.1))) c.copy_rows.ensures)
