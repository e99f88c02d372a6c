use borrow.Author.Rules.{rules}
use mathlib.Core.Path.{sym, ap}
use mathlib.Core.List.{[], ◌∷◌}
use Prim.Native.Nat.{ℕ, ◌+◌, ◌≤◌, ◌<◌}
use native.Mathlib.Omega.{arith}
use lib.ListN.{length, get_or}
use Rattle.task.specs.Marks.{CLAUSE}
use Rattle.task.specs.TaskRows.{row}
use Rattle.writer.proofs.Putting.{then, wrote_none, as_rows, kept_none, kept_on}
use Rattle.single_effects.specs.Effects.{picked_rows}
use Rattle.single_effects.proofs.Picking.{Turn, goes_on, dividing, turn, Picking, none_left}
use Rattle.single_effects.proofs.choosing.put_literals.Goals as goal
use Rattle.single_effects.proofs.choosing.put_literals.Goals.{After-clause_end-end, After-take_digit-d, At-loop-i, In-loop-i}

pub loop-i-init : goal.loop-i-init
loop-i-init c = λ all C. record { left = all; choosable = C; so_far = kept_none (search rules); onward = λ r o w. w }

-- the loop's state for the condition that is required
here : (c : At-loop-i) → let a = c.args in
    Picking a.out.now a.c (picked_rows c.requires.choosable.0 a.first.number) a.rows.now.marks.now a.rows.now.values.now c.loop-i.i a.s.to c.loop-i.p c.loop-i.out c.loop-i.k
here c = c.loop-i.invariant c.requires.choosable.0 c.requires.choosable.1

few : (c : In-loop-i) → let a = c.args in
    (c.loop-i.i < a.s.to) × (a.s.to ≤ length a.rows.now.marks.now) × (length a.rows.now.marks.now ≤ 12000)
few c =
    let here' : let a = c.args in Picking a.out.now a.c (picked_rows c.requires.choosable.0 a.first.number) a.rows.now.marks.now a.rows.now.values.now c.loop-i.i a.s.to c.loop-i.p c.loop-i.out c.loop-i.k = c.loop-i.invariant c.requires.choosable.0 c.requires.choosable.1 in (search rules, here'.choosable.condition.inside, c.args.rows.now.fit.few)

turned : (c : After-take_digit-d) →
    let here' : let a = c.args in Picking a.out.now a.c (picked_rows c.requires.choosable.0 a.first.number) a.rows.now.marks.now a.rows.now.values.now c.loop-i.i a.s.to c.loop-i.p c.loop-i.out c.loop-i.k = c.loop-i.invariant c.requires.choosable.0 c.requires.choosable.1 in let a = c.args in
    Turn a.rows.now.marks.now a.rows.now.values.now c.loop-i.i a.s.to here'.left c.loop-i.p.number c.clause_end-end.result c.take_digit-d.result
turned c =
    let here' : let a = c.args in Picking a.out.now a.c (picked_rows c.requires.choosable.0 a.first.number) a.rows.now.marks.now a.rows.now.values.now c.loop-i.i a.s.to c.loop-i.p c.loop-i.out c.loop-i.k = c.loop-i.invariant c.requires.choosable.0 c.requires.choosable.1 in
    let a = c.args in
    turn a.rows.now.marks.now a.rows.now.values.now c.loop-i.i a.s.to c.loop-i.p c.clause_end-end.result c.clause_end-end.ensures (search rules)
    here'.left here'.choosable c.take_digit-d.result c.take_digit-d.ensures

goes : (c : After-clause_end-end) → c.loop-i.i + 2 ≤ c.clause_end-end.result
goes c =
    let here' : let a = c.args in Picking a.out.now a.c (picked_rows c.requires.choosable.0 a.first.number) a.rows.now.marks.now a.rows.now.values.now c.loop-i.i a.s.to c.loop-i.p c.loop-i.out c.loop-i.k = c.loop-i.invariant c.requires.choosable.0 c.requires.choosable.1 in
    let a = c.args in
    goes_on a.rows.now.marks.now a.rows.now.values.now c.loop-i.i a.s.to c.loop-i.p c.clause_end-end.result c.clause_end-end.ensures (search rules)
    here'.left here'.choosable

pub clause_end-end-requires : goal.clause_end-end-requires
clause_end-end-requires c = let f = few (goal.at.clause_end-end-requires c).In-loop-i in (omega (arith, f), c.requires.room.1)

pub overflow_sub-end : goal.overflow_sub-end
overflow_sub-end c = omega (arith, goes c)

pub overflow_sub-end-in-loop-i : goal.overflow_sub-end-in-loop-i
overflow_sub-end-in-loop-i c = omega (arith, goes c)

pub take_digit-d-requires : goal.take_digit-d-requires
take_digit-d-requires c =
    let a = c.args in
    dividing a.rows.now.marks.now a.rows.now.values.now c.loop-i.i a.s.to c.loop-i.p c.clause_end-end.result c.clause_end-end.ensures (search rules)
    (few (goal.at.take_digit-d-requires c).In-loop-i).2 (here (goal.at.take_digit-d-requires c).At-loop-i).left (here (goal.at.take_digit-d-requires c).At-loop-i).choosable

pub overflow_add-at : goal.overflow_add-at
overflow_add-at c = let f = few (goal.at.overflow_add-at c).In-loop-i in search rules

pub overflow_add-at-in-loop-i : goal.overflow_add-at-in-loop-i
overflow_add-at-in-loop-i c = let f = few (goal.at.overflow_add-at-in-loop-i c).In-loop-i in let g = (turned (goal.at.overflow_add-at-in-loop-i c).After-take_digit-d).inside in search rules

pub bounds-rows-at : goal.bounds-rows-at
bounds-rows-at c = (turned (goal.at.bounds-rows-at c).After-take_digit-d).inside

pub value-requires : goal.value-requires
value-requires c = (turned (goal.at.value-requires c).After-take_digit-d).inside

pub put_single-k-requires : goal.put_single-k-requires
put_single-k-requires c = (here (goal.at.put_single-k-requires c).At-loop-i).so_far.room

pub loop-i-smaller : goal.loop-i-smaller
loop-i-smaller c =
    let t = turned (goal.at.loop-i-smaller c).After-take_digit-d in
    omega (arith, t.goes, t.within)

pub loop-i-preserved : goal.loop-i-preserved
loop-i-preserved c = λ all C.
    let a = c.args in
    let ms = a.rows.now.marks.now in
    let i = c.loop-i.i in
    let P = c.loop-i.invariant all C in
    let t = turn ms a.rows.now.values.now i a.s.to c.loop-i.p c.clause_end-end.result c.clause_end-end.ensures (search rules) P.left P.choosable
    c.take_digit-d.result c.take_digit-d.ensures in
    let read = ap (λ (u : ℕ). row CLAUSE 0 ∷ row (get_or ms (i + 1 + c.take_digit-d.result.literal) 0) u ∷ []) c.value.ensures in
    record {
      left = t.rest;
      choosable = t.onward;
      so_far = kept_on P.so_far c.put_single-k.auto.out c.put_single-k.ensures;
      onward = λ r o x. P.onward r o (as_rows t.written (then (as_rows read c.put_single-k.ensures) x));
    }

pub shape_of-out : goal.shape_of-out
shape_of-out c = (here (goal.at.shape_of-out c).At-loop-i).so_far.size

pub returns : goal.returns
returns c = λ all C.
    let a = c.args in
    let P = c.loop-i.invariant all C in
    P.onward c.loop-i.k c.loop-i.out
    (as_rows (sym (none_left a.rows.now.marks.now a.rows.now.values.now c.loop-i.i a.s.to c.loop-i.p P.left P.choosable (search rules))) (wrote_none P.so_far.room))
