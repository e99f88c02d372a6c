use borrow.Author.Rules.{rules}
use mathlib.Core.Path.{◌∙◌}
use Prim.Native.Nat.{◌≤◌}
use native.Mathlib.Omega.{arith}
use Rattle.single_effects.proofs.Rewriting.{Rewriting, rewriting_begins, rewritten, rewriting_on, rewriting_along, effect_there, rewriting_past}
use Rattle.single_effects.proofs.whole.put_task.Goals as goal
use Rattle.single_effects.proofs.whole.put_task.Goals.{At-loop-i}

pub loop-i-init : goal.loop-i-init
loop-i-init c = λ t N.
    rewriting_begins c.args.out.now c.args.c t c.args.rows.now.marks.now c.args.rows.now.values.now c.requires.room.0 N

-- the loop's state for the task that is required
here : (c : At-loop-i) → let a = c.args in
    Rewriting a.out.now a.c c.requires.narrow.0 a.rows.now.marks.now a.rows.now.values.now c.loop-i.from c.loop-i.i c.loop-i.out c.loop-i.k
here c = c.loop-i.invariant c.requires.narrow.0 c.requires.narrow.1

pub copy_rows-k-requires : goal.copy_rows-k-requires
copy_rows-k-requires c =
    ((here (goal.at.copy_rows-k-requires c).At-loop-i).so_far.room, (here (goal.at.copy_rows-k-requires c).At-loop-i).inside)

pub put_effect-k-requires : goal.put_effect-k-requires
put_effect-k-requires c =
    let a = c.args in (
      c.copy_rows-k.ensures.room,
      effect_there a.out.now a.c c.requires.narrow.0 a.rows.now.marks.now a.rows.now.values.now c.loop-i.from c.loop-i.i c.loop-i.out c.loop-i.k (here (goal.at.put_effect-k-requires c).At-loop-i)
          (search rules) (search rules) c.shape_of-s.result (c.shape_of-s.ensures.by_index a.rows.now.values.now),
    )

-- an effect of one choice is left to be copied
pub loop-i-smaller-then-s-eq1 : goal.loop-i-smaller-then-s-eq1
loop-i-smaller-then-s-eq1 c =
    let o = c.shape_of-s.ensures.in_order in
    omega (arith, o.opened, o.whole, o.inside)

pub loop-i-preserved-then-s-eq1 : goal.loop-i-preserved-then-s-eq1
loop-i-preserved-then-s-eq1 c = λ t N.
    let a = c.args in
    rewriting_along a.out.now a.c t a.rows.now.marks.now a.rows.now.values.now c.loop-i.from c.loop-i.i c.loop-i.out c.loop-i.k (c.loop-i.invariant t N)
    (search rules) (search rules) c.shape_of-s.result (c.shape_of-s.ensures.by_index a.rows.now.values.now) c.shape_of-s.ensures.in_order c.if-s-eq1.true

-- any other is written by its choices
pub loop-i-smaller-else-s-eq1 : goal.loop-i-smaller-else-s-eq1
loop-i-smaller-else-s-eq1 c =
    let o = c.shape_of-s.ensures.in_order in
    omega (arith, o.opened, o.whole, o.inside)

pub loop-i-preserved-else-s-eq1 : goal.loop-i-preserved-else-s-eq1
loop-i-preserved-else-s-eq1 c = λ t N.
    let a = c.args in
    rewriting_past a.out.now a.c t a.rows.now.marks.now a.rows.now.values.now c.loop-i.from c.loop-i.i c.loop-i.out c.loop-i.k (c.loop-i.invariant t N)
    (search rules) (search rules) c.shape_of-s.result (c.shape_of-s.ensures.by_index a.rows.now.values.now) c.shape_of-s.ensures.in_order
    c.copy_rows-k.new.out c.copy_rows-k.result c.copy_rows-k.auto.out c.copy_rows-k.ensures
    c.put_effect-k.new.out c.put_effect-k.result c.put_effect-k.auto.out c.put_effect-k.ensures

pub loop-i-preserved : goal.loop-i-preserved
loop-i-preserved c = λ t N.
    let a = c.args in
    rewriting_on a.out.now a.c t a.rows.now.marks.now a.rows.now.values.now c.loop-i.from c.loop-i.i c.loop-i.out c.loop-i.k (c.loop-i.invariant t N)
    (search rules) (search rules)

pub copy_rows-requires : goal.copy_rows-requires
copy_rows-requires c =
    ((here (goal.at.copy_rows-requires c).At-loop-i).so_far.room, omega arith)

pub shape_of-out : goal.shape_of-out
shape_of-out c =
    c.copy_rows.auto.out ∙ (here (goal.at.shape_of-out c).At-loop-i).so_far.size

pub returns : goal.returns
returns c = λ t N.
    let a = c.args in
    let through : a.last ≤ c.loop-i.i = search rules in
    rewritten a.out.now a.c t a.rows.now.marks.now a.rows.now.values.now c.loop-i.from c.loop-i.i c.loop-i.out c.loop-i.k (c.loop-i.invariant t N)
    (λ m f g q. c.requires.room.2 m (omega arith) g q) c.copy_rows.result c.copy_rows.new.out c.copy_rows.ensures
