-- The leaf is set, by `leaf_set`, and the games above it are played again.
use borrow.Author.Rules.{rules}
use mathlib.Core.Path.{sym, subst, ◌∙◌}
use mathlib.Core.Bool.{Bool}
use Prim.Native.Nat.{ℕ, ◌+◌, ◌/◌}
use lib.ListN.{set, length-set}
use Rattle.tournament.specs.Tournament.{LEAVES, OnWay, Played, with_leaf}
use Rattle.tournament.proofs.Owners.{leaf_set}
use Rattle.tournament.proofs.set_leaf.Goals as goal
use Rattle.tournament.proofs.set_leaf.Goals.{After-replay-arg-1}

-- where set_leaf began, from where the games are played again
-- the tree with the new leaf
with_leaf_lem : (c : After-replay-arg-1) (o : ℕ → Bool) → let a = c.args in
    Played a.tree.now a.words.now o (OnWay ((LEAVES + a.p) / 2))
    → Played (set a.tree.now (LEAVES + a.p) c.leaf_entry.result) a.words.now (with_leaf a.p a.is_open o)
    (OnWay ((LEAVES + a.p) / 2))
with_leaf_lem c o P =
    let a = c.args in
    subst (λ (x : ℕ). Played (set a.tree.now (LEAVES + a.p) x) a.words.now (with_leaf a.p a.is_open o) (OnWay ((LEAVES + a.p) / 2)))
    (sym c.leaf_entry.ensures)
    (leaf_set a.tree.now a.words.now o a.p P c.requires.placed a.is_open)

pub replay-requires : goal.replay-requires
replay-requires c =
    let o = c.requires.by_index.0 in
    (search rules, (with_leaf c.args.p c.args.is_open o, with_leaf_lem c o c.requires.by_index.1))

pub shape_of-tree : goal.shape_of-tree
shape_of-tree c =
    let a = c.args in
    c.replay.auto.tree ∙ length-set a.tree.now (LEAVES + a.p) c.leaf_entry.result

pub returns : goal.returns
returns c = λ o P.
    let a = c.args in
    c.replay.ensures (with_leaf a.p a.is_open o) (with_leaf_lem (goal.at.returns c).After-replay-arg-1 o P)
