-- The three parts of the table in turn, by `then`; D1 as fact_d gives it.
use mathlib.Core.Path.{ap}
use mathlib.Core.Bool.{false}
use mathlib.Core.List.{[], ◌∷◌}
use Prim.Native.Nat.{ℕ}
use Rattle.task.specs.Marks.{ADD}
use Rattle.task.specs.TaskRows.{row}
use Rattle.layout.specs.Sides.{part}
use Rattle.effects.specs.Effects.{false_rows}
use Rattle.writer.proofs.Putting.{then, as_rows}
use Rattle.kind_trackers.proofs.deadlines.always_within.Goals as goal

pub returns : goal.returns
returns c =
    let a = c.args in
    let xs = part a.rows.now.marks.now a.rows.now.values.now a.p.first in
    let ys = part a.rows.now.marks.now a.rows.now.values.now a.p.second in
    then
    (as_rows (ap (λ (x : ℕ). false_rows xs (row ADD a.f.b ∷ row ADD x ∷ []) false ys) c.fact_d-first.ensures) c.each_false-k.ensures)
    (then c.put_waits-k.ensures c.put_reset.ensures)
