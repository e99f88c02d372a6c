use borrow.Author.Rules.{rules}
use mathlib.Core.Path.{refl, sym, subst}
use Prim.Native.Nat.{ℕ, ◌+◌, ◌*◌, ◌/◌}
use native.Mathlib.Omega.{arith}
use lib.ListN.{set}
use Rattle.tournament.proofs.Games.{Replaying, replaying_on, replaying_ends}
use Rattle.tournament.proofs.replay.Goals as goal

pub loop-i-init : goal.loop-i-init
loop-i-init c =
    record { below = search rules; long = refl; some = c.requires.1; keeps = λ o P. P }

pub bounds-tree-i : goal.bounds-tree-i
bounds-tree-i c =
    let l = c.loop-i in
    omega (arith, l.invariant.some.1.nodes, l.invariant.below)

pub bounds-tree-i-in-loop-i : goal.bounds-tree-i-in-loop-i
bounds-tree-i-in-loop-i c =
    let l = c.loop-i in
    omega (arith, l.invariant.some.1.nodes, l.invariant.below)

pub cheaper-requires : goal.cheaper-requires
cheaper-requires c =
    let l = c.loop-i in
    (l.invariant.some.1.known (2 * l.i), l.invariant.some.1.known (2 * l.i + 1))

pub bounds-tree-i-in-loop-i-2 : goal.bounds-tree-i-in-loop-i-2
bounds-tree-i-in-loop-i-2 c =
    let l = c.loop-i in
    omega (arith, l.invariant.some.1.nodes, l.invariant.below)

pub loop-i-preserved : goal.loop-i-preserved
loop-i-preserved c =
    let l = c.loop-i in
    let a = c.args in
    subst (λ (x : ℕ). Replaying a.tree.now a.words.now a.k (set l.tree l.i x) (l.i / 2)) (sym c.cheaper.ensures.0)
    (replaying_on a.tree.now a.words.now a.k l.tree l.i l.invariant (search rules))

pub returns : goal.returns
returns c =
    let l = c.loop-i in
    let a = c.args in
    replaying_ends a.tree.now a.words.now a.k l.tree l.i l.invariant (search rules)
