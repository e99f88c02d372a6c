use borrow.Author.Rules.{rules}
use mathlib.Core.Path.{refl}
use Rattle.state.specs.Member.{member}
use Rattle.reading.proofs.EffectRows.{begins, its_effect, goes_on, stops, ends}
use Rattle.reading.proofs.effects.after.Goals as goal

pub loop-i-init : goal.loop-i-init
loop-i-init c =
    let a = c.args in
    begins (member a.s) a.rows.now.marks.now a.rows.now.values.now a.at _ c.none.ensures c.none-2.ensures refl

pub returns-then-rows-i-ne-EFFECT : goal.returns-then-rows-i-ne-EFFECT
returns-then-rows-i-ne-EFFECT c =
    let a = c.args in
    stops (member a.s) a.rows.now.marks.now a.rows.now.values.now a.at c.loop-i.g c.loop-i.i c.finished.result
    c.finished.ensures.0 c.finished.ensures.1 c.loop-i.invariant (search rules) c.if-rows-i-ne-EFFECT.true

pub one_effect-h-requires : goal.one_effect-h-requires
one_effect-h-requires c =
    let a = c.args in
    record {
      rows = search rules;
      some_effect = its_effect (member a.s) a.rows.now.marks.now a.rows.now.values.now a.at c.loop-i.g c.loop-i.i (search rules) c.if-rows-i-ne-EFFECT.false c.requires c.loop-i.invariant;
    }

pub loop-i-preserved : goal.loop-i-preserved
loop-i-preserved c =
    let a = c.args in
    goes_on (member a.s) a.rows.now.marks.now a.rows.now.values.now a.at c.loop-i.g c.loop-i.i c.one_effect-h.result
    (search rules) c.if-rows-i-ne-EFFECT.false c.one_effect-h.ensures.gathers c.one_effect-h.ensures.i_lt_next.1 c.one_effect-h.ensures.i_lt_next.2 c.loop-i.invariant

pub returns : goal.returns
returns c =
    let a = c.args in
    ends (member a.s) a.rows.now.marks.now a.rows.now.values.now a.at c.loop-i.g c.loop-i.i c.finished-2.result
    c.finished-2.ensures.0 c.finished-2.ensures.1 c.loop-i.invariant (search rules)
