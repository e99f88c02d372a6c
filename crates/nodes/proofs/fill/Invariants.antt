-- Below place i the nodes are filled, and the others are as they were.
use Prim.Native.Nat.{◌≤◌}
use mathlib.Core.Path.{◌≡◌}
use Rattle.nodes.specs.Nodes.{node_read}
use Rattle.nodes.proofs.Filling.{filled}
use Rattle.nodes.proofs.fill.Given as goal

abbrev pub invariant-loop-i : goal.invariant-loop-i
invariant-loop-i l = record {
  within : l.i ≤ l.n;
  same : l.nodes ≡ filled (node_read l.words) l.initial.nodes l.i;
}
