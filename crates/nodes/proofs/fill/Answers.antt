-- One turn fills one place more: filled_next of Filling.
use mathlib.Core.Path.{◌≡◌, ap, ◌∙◌}
use native.Mathlib.Omega.{arith}
use borrow.Author.Rules.{rules}
use Rattle.nodes.specs.Nodes.{node_read}
use Rattle.nodes.proofs.Filling.{filled, filled_next}
use Rattle.nodes.proofs.fill.Goals as goal

pub loop-i-preserved : goal.loop-i-preserved
loop-i-preserved c =
    let a = c.args in
    record {
      within = search rules;
      same = rw (c.loop-i.invariant.same, c.node_of.ensures) (filled_next (node_read a.words.now) a.nodes.now c.loop-i.i (search rules));
    }

pub returns : goal.returns
returns c =
    let a = c.args in
    let i_is : c.loop-i.i ≡ a.n = omega arith in
    c.loop-i.invariant.same ∙ ap (filled (node_read a.words.now) a.nodes.now) i_is
