-- The last state seen, the goal read and the met preferences found give the last verdict, by `Finishing`.
use borrow.Author.Rules.{rules}
use borrow.Author.Tests.{not-true, not-false}
use Rattle.monitors.proofs.TaskRead.{preferences_there}
use Rattle.plan.proofs.Finishing.{missed, rule_is, solved_is}
use Rattle.plan.proofs.steps.finish.Goals as goal

pub watch-seen-requires : goal.watch-seen-requires
watch-seen-requires c =
    let a = c.args in
    let t = c.requires.end.0 in
    let E = c.requires.end.2 in
    record {
      rows = search rules;
      some_preferences = (t.preferences, preferences_there t a.rows.now.marks.now a.rows.now.values.now E.placed.spells a.places.preferences E.placed.preferences);
    }

pub shape_of-ms-then-not-g : goal.shape_of-ms-then-not-g
shape_of-ms-then-not-g c =
    c.watch-seen.auto.ms

pub returns-then-not-g : goal.returns-then-not-g
returns-then-not-g c = λ t μ E.
    let a = c.args in
    missed a.rows.now.marks.now a.rows.now.values.now a.places a.ms.now t μ E a.p c.condition-g.result c.condition-g.ensures.value
    c.watch-seen.new.ms c.watch-seen.result c.watch-seen.ensures.for_preferences (not-true _ c.if-not-g.true)

pub shape_of-ms-then-found : goal.shape_of-ms-then-found
shape_of-ms-then-found c =
    c.watch-seen.auto.ms

pub returns-then-found : goal.returns-then-found
returns-then-found c = λ t μ E.
    let a = c.args in
    rule_is a.rows.now.marks.now a.rows.now.values.now a.places a.ms.now t μ E a.p c.condition-g.result c.condition-g.ensures.value
    c.watch-seen.new.ms c.watch-seen.result c.watch-seen.ensures.for_preferences (not-false _ c.if-not-g.false)
    c.find-found.result c.find-found.ensures (search rules)

pub shape_of-ms : goal.shape_of-ms
shape_of-ms c =
    c.watch-seen.auto.ms

pub returns : goal.returns
returns c = λ t μ E.
    let a = c.args in
    solved_is a.rows.now.marks.now a.rows.now.values.now a.places a.ms.now t μ E a.p c.condition-g.result c.condition-g.ensures.value
    c.watch-seen.new.ms c.watch-seen.result c.watch-seen.ensures.for_preferences (not-false _ c.if-not-g.false)
    c.find-found.result c.find-found.ensures (search (rules, c.struct_known-3-1.given)) (search rules)
