-- The very test of the definition, at the file's count.
use mathlib.Core.Path.{ap}
use mathlib.Core.Bool.{◌&&◌}
use Prim.Native.Nat.{ℕ, ◌+◌, ◌*◌}
use lib.Dec.{leb}
use lib.ListN.{length}
use Rattle.weekly.proofs.plans.is_headed.Goals as goal

pub returns : goal.returns
returns c =
    let size = length c.args.plans.now in
    ap (λ (n : ℕ). leb 2 size && leb 1 n && leb n 64 && leb (2 + 4 * n) size) c.requires.0
