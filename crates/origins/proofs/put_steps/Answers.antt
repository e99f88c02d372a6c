use borrow.Author.Rules.{rules}
use mathlib.Core.Path.{ap, ◌∙◌}
use Prim.Native.Nat.{◌/◌, ◌%◌}
use native.Mathlib.Omega.{arith}
use Rattle.node_words.specs.declared.Packed.{Packed}
use Rattle.origins.proofs.Ways.{written_first, written_on, written_last}
use Rattle.origins.proofs.put_steps.Goals as goal

pub loop-k-init : goal.loop-k-init
loop-k-init c =
    written_first c.args.words.now c.args.n c.args.place c.requires.place_in.inside c.args.plan.now c.args.steps c.requires.steps_value.1
    c.requires.place_in.below c.requires.steps_value.0

pub node_at-x-requires : goal.node_at-x-requires
node_at-x-requires c =
    record { few = omega (arith, c.loop-k.invariant.here, c.requires.place_in.there.few); room = omega (arith, c.loop-k.invariant.here, c.requires.place_in.there.room) }

pub bounds-plan-k : goal.bounds-plan-k
bounds-plan-k c =
    omega (arith, c.loop-k-test.true, c.loop-k.invariant.few, c.loop-k.invariant.long, c.requires.steps_value.1)

pub loop-k-preserved : goal.loop-k-preserved
loop-k-preserved c =
    written_on c.args.words.now c.args.n c.args.place c.requires.place_in.inside c.args.plan.now c.args.steps c.requires.steps_value.1
    c.loop-k.plan c.loop-k.k c.loop-k.i c.loop-k.invariant (search rules) c.action.result c.origin-i.result
    (c.action.ensures ∙ ap (λ (x : Packed). x.link % 256) c.node_at-x.ensures) (c.origin-i.ensures ∙ ap (λ (x : Packed). x.link / 256) c.node_at-x.ensures)

pub shape_of-plan : goal.shape_of-plan
shape_of-plan c = c.loop-k.invariant.long

pub returns : goal.returns
returns c =
    written_last c.args.words.now c.args.n c.args.place c.requires.place_in.inside c.args.plan.now c.args.steps c.requires.steps_value.1
    c.loop-k.plan c.loop-k.k c.loop-k.i c.loop-k.invariant (search rules)
