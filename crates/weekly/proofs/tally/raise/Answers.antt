use borrow.Author.Rules.{rules}
use mathlib.Core.Path.{refl, sym, ◌∙◌}
use Prim.Native.Nat.{◌+◌}
use native.Mathlib.Omega.{arith}
use Rattle.state.specs.Member.{bit}
use Rattle.figures.proofs.Raising.{raise_end}
use Rattle.weekly.proofs.Counts.{count_few, raised_on}
use Rattle.weekly.proofs.tally.raise.Goals as goal

pub loop-k-init : goal.loop-k-init
loop-k-init c = record { left = omega arith; sixteen = c.requires.sixteen; few = c.requires.few; same = refl }

pub raised_count-requires : goal.raised_count-requires
raised_count-requires c =
    let l = c.loop-k in
    let few = count_few (64 + l.k) l.k l.meeting l.invariant.few (omega (arith, l.invariant.sixteen, c.loop-k-test.true)) in
    (omega (arith, few, c.loop-k-test.true), search rules)

pub loop-k-preserved : goal.loop-k-preserved
loop-k-preserved c =
    let l = c.loop-k in
    raised_on (bit c.args.met) _ l.meeting l.k l.invariant (search rules) c.raised_count.result c.raised_count.ensures.0
    c.raised_count.ensures.1

pub returns : goal.returns
returns c =
    let l = c.loop-k in
    sym (raise_end (bit c.args.met) 0 l.k l.meeting (omega (arith, l.invariant.sixteen, c.loop-k-test.false))) ∙ l.invariant.same
