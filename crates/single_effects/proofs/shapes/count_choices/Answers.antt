use borrow.Author.Rules.{rules}
use mathlib.Core.Path.{◌≡◌, refl, sym, ap, ◌∙◌}
use lib.ListN.{length}
use Rattle.single_effects.specs.Shapes.{counted}
use native.Mathlib.Omega.{arith}
use borrow.Author.Tests.{not-true, not-false}
use Rattle.single_effects.proofs.Counting.{fewer, counting_on, counted_stop, counted_end}
use Rattle.single_effects.proofs.shapes.count_choices.Goals as goal

pub loop-i-init : goal.loop-i-init
loop-i-init c = record { begun = search rules; inside = search rules; few = record { few_choices = omega arith; few_literals = omega arith; few_clauses = omega arith }; same = λ vs. refl }

pub finish-requires : goal.finish-requires
finish-requires c =
    fewer c.loop-i.t c.loop-i.i 12000 (search rules) c.loop-i.invariant.few

pub returns-then-not-in_condition : goal.returns-then-not-in_condition
returns-then-not-in_condition c =
    let a = c.args in
    let parts = counted_stop a.marks.now a.from c.loop-i.t c.loop-i.i c.loop-i.invariant (search rules)
    (sym c.in_condition.ensures ∙ not-true _ c.if-not-in_condition.true-raw) c.finish.result c.finish.ensures in
    record { from_le_next = parts.0; by_index = parts.1 }

pub take_in-t-requires : goal.take_in-t-requires
take_in-t-requires c =
    fewer c.loop-i.t c.loop-i.i 12000 (search rules) c.loop-i.invariant.few

pub loop-i-preserved : goal.loop-i-preserved
loop-i-preserved c =
    let a = c.args in
    counting_on a.marks.now a.from c.loop-i.t c.loop-i.i c.loop-i.invariant (search rules)
    (sym c.in_condition.ensures ∙ not-false _ c.if-not-in_condition.false-raw) c.take_in-t.result c.take_in-t.ensures

pub finish-requires-2 : goal.finish-requires-2
finish-requires-2 c =
    fewer c.loop-i.t c.loop-i.i 12000 (search rules) c.loop-i.invariant.few

pub returns : goal.returns
returns c =
    let a = c.args in
    let end : length a.marks.now ≡ c.loop-i.i = omega (arith, c.loop-i.invariant.inside, c.loop-i.auto.i-end, c.loop-i-test.false) in
    let parts = counted_end a.marks.now a.from c.loop-i.t c.loop-i.i c.loop-i.invariant (search rules) c.finish-2.result
    (c.finish-2.ensures ∙ ap (counted c.loop-i.t) end) in
    record { from_le_next = parts.0; by_index = parts.1 }
