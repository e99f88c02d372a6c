-- The node unpacked from its words, as `node_at` reads them.
use mathlib.Core.Path.{ap, ◌∙◌}
use Prim.Native.Nat.{◌%◌}
use Rattle.nodes.specs.Nodes.{unpacked}
use Rattle.nodes.proofs.node_of.Goals as goal

pub returns : goal.returns
returns c =
    (λ i. record {
      state = c.state.ensures i;
      cost = c.node_at-x.result.cost;
      origin = c.origin.ensures i % 65536;
      action = c.action.ensures i;
    })
    ∙ ap unpacked c.node_at-x.ensures
