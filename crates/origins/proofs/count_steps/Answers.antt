use borrow.Author.Rules.{rules}
use mathlib.Core.Path.{sym, ◌∙◌, ap, subst}
use Prim.Native.Nat.{ℕ, ◌+◌, ◌/◌}
use native.Mathlib.Omega.{arith}
use Rattle.node_words.specs.declared.Packed.{Packed}
use Rattle.origins.proofs.Ways.{Counted, counted_first, counted_on, counted_zero, counted_last}
use Rattle.origins.proofs.count_steps.Goals as goal

pub loop-d-init : goal.loop-d-init
loop-d-init c =
    counted_first c.args.words.now c.args.n c.args.place c.requires.inside c.requires.below

pub returns-then-i-eq0 : goal.returns-then-i-eq0
returns-then-i-eq0 c =
    counted_zero c.args.words.now c.args.n c.args.place c.requires.inside c.loop-d.d c.loop-d.i c.loop-d.invariant (search rules)

pub node_at-requires : goal.node_at-requires
node_at-requires c =
    record { few = omega (arith, c.loop-d.invariant.here, c.requires.there.few); room = omega (arith, c.loop-d.invariant.here, c.requires.there.room) }

pub loop-d-preserved : goal.loop-d-preserved
loop-d-preserved c =
    subst (λ (o : ℕ). Counted c.args.words.now c.args.n c.args.place (c.loop-d.d + 1) o) (sym (c.origin-i.ensures ∙ ap (λ (x : Packed). x.link / 256) c.node_at.ensures))
    (counted_on c.args.words.now c.args.n c.args.place c.requires.inside c.loop-d.d c.loop-d.i c.loop-d.invariant (search rules) (search rules))

pub returns : goal.returns
returns c =
    counted_last c.args.words.now c.args.n c.args.place c.requires.inside c.loop-d.d c.loop-d.i c.loop-d.invariant (search rules)
