use borrow.Author.Rules.{rules}
use mathlib.Core.Path.{refl}
use Rattle.layout.proofs.Noting.{fits, noted_on, passed_on, all_noted}
use Rattle.layout.proofs.actions.note_actions.Goals as goal
use Rattle.layout.proofs.actions.note_actions.Goals.{then-marks-i-eq-ACTION, else-marks-i-eq-ACTION}

pub loop-i-init : goal.loop-i-init
loop-i-init c = record { size = refl; room = search rules; so_far = refl }

pub bounds-starts-c : goal.bounds-starts-c
bounds-starts-c c =
    let a = c.args in
    let room = fits a.marks.now a.starts.now c.loop-i.starts c.loop-i.c c.loop-i.i c.loop-i.invariant (search rules) c.if-marks-i-eq-ACTION.true in
    search rules

pub loop-i-preserved : goal.loop-i-preserved
loop-i-preserved c =
    let a = c.args in
    elim c.if-marks-i-eq-ACTION.branch [
      | then-marks-i-eq-ACTION w ↦ rw (w.starts-is, w.c-is) (noted_on a.marks.now a.starts.now c.loop-i.starts c.loop-i.c c.loop-i.i c.loop-i.invariant (search rules) w.if-marks-i-eq-ACTION.true)
      | else-marks-i-eq-ACTION w ↦ rw (w.starts-is, w.c-is) (passed_on a.marks.now a.starts.now c.loop-i.starts c.loop-i.c c.loop-i.i c.loop-i.invariant (search rules) w.if-marks-i-eq-ACTION.false)
    ]

pub shape_of-starts : goal.shape_of-starts
shape_of-starts c = c.loop-i.invariant.size

pub returns : goal.returns
returns c =
    let a = c.args in (
      search rules,
      all_noted a.marks.now a.starts.now c.loop-i.starts c.loop-i.c c.loop-i.i c.loop-i.invariant (search rules),
    )
