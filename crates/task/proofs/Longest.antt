-- No accepted file is longer than 60,008 bytes.
use mathlib.Core.Path.{◌≡◌}
use mathlib.Core.List.{List}
use Prim.Native.Nat.{ℕ, ◌≤◌}
use native.Mathlib.Omega.{arith}
use lib.ListN.{length}
use Rattle.task.specs.File.{Sizes}
use Rattle.task.specs.Check.{accepted, check}
use Rattle.task.proofs.Checking.{within}
use Rattle.task.proofs.Spelled.{accepted_spelling}

pub longest : (b : List ℕ) (z : Sizes) → check b ≡ accepted z → length b ≤ 60008
longest b z h =
    let s = accepted_spelling b z h in
    omega (arith, (within z s.allowed).0, s.exact)
