use Rattle.layout.specs.Sides.{stretch}
use Rattle.effects.specs.Effects.{guard_rows, changed_rows, false_rows}
use Rattle.effects.proofs.FalseRows.{next_false, last-false}
use Rattle.writer.proofs.Putting.{then, as_rows, wrote_full, kept_on}
use borrow.Author.Rules.{rules}
use Rattle.effects.proofs.each_false.Goals as goal

pub returns-then-k-ge-OVERFULL : goal.returns-then-k-ge-OVERFULL
returns-then-k-ge-OVERFULL c =
    let a = c.args in
    let gs = guard_rows a.rows.now.marks.now a.rows.now.values.now a.e.guard in
    let left = stretch a.rows.now.marks.now a.rows.now.values.now c.loop-j.j a.e.condition.to in
    c.loop-j.invariant.onward c.loop-j.k c.loop-j.out
    (wrote_full (false_rows gs (changed_rows a.e.change) c.loop-j.begun left) c.loop-j.invariant.so_far.room (search rules))

pub loop-j-preserved : goal.loop-j-preserved
loop-j-preserved c =
    let a = c.args in
    record {
      so_far = kept_on c.loop-j.invariant.so_far c.false_row-k.auto.out c.false_row-k.ensures;
      onward = λ r o w. c.loop-j.invariant.onward r o
          (as_rows (next_false a.rows.now.marks.now a.rows.now.values.now c.loop-j.j a.e.condition.to (guard_rows a.rows.now.marks.now a.rows.now.values.now a.e.guard)
          (changed_rows a.e.change) c.loop-j.begun (search rules) (search rules))
          (then c.false_row-k.ensures w));
    }

pub returns : goal.returns
returns c =
    let a = c.args in
    c.loop-j.invariant.onward c.close_effect.result _
    (as_rows (last-false a.rows.now.marks.now a.rows.now.values.now c.loop-j.j a.e.condition.to (guard_rows a.rows.now.marks.now a.rows.now.values.now a.e.guard)
    (changed_rows a.e.change) c.loop-j.begun (search rules))
    c.close_effect.ensures)
