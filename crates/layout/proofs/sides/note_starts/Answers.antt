use borrow.Author.Rules.{rules}
use mathlib.Core.Path.{refl, ◌∙◌}
use lib.ListN.{length-set}
use Rattle.layout.proofs.Starting.{none_noted, noted_on, noted_all}
use Rattle.layout.proofs.sides.note_starts.Goals as goal

pub loop-c-init : goal.loop-c-init
loop-c-init c = let a = c.args in (refl, none_noted a.marks.now a.at a.many a.starts.now)

pub loop-c-preserved : goal.loop-c-preserved
loop-c-preserved c =
    let a = c.args in (
      length-set c.loop-c.starts c.loop-c.c c.loop-c.j ∙ c.loop-c.invariant.0,
      noted_on a.marks.now a.at a.many c.loop-c.starts c.loop-c.c c.loop-c.j c.loop-c.invariant.1 (search rules) (search rules)
          c.after_preference-j.result c.after_preference-j.ensures,
    )

pub shape_of-starts : goal.shape_of-starts
shape_of-starts c = c.loop-c.invariant.0

pub returns : goal.returns
returns c =
    let a = c.args in
    noted_all a.marks.now a.at a.many c.loop-c.starts c.loop-c.c c.loop-c.j c.loop-c.invariant.1 (search rules)
