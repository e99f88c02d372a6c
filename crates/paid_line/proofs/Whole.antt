-- A line that fits its area stands there whole.
use mathlib.Core.Path.{◌≡◌, sym, ap, ◌∙◌}
use mathlib.Core.List.{List, ◌++◌}
use Prim.Native.Nat.{ℕ, ◌≤◌}
use native.Mathlib.Omega.{arith}
use lib.ListN.{length, drop}
use Rattle.text.specs.Area.{Wrote}
use Rattle.text.proofs.Writing.{from_start, written_whole}

pub whole_line : (old line out : List ℕ) (r : ℕ) → Wrote old 0 line r out → r ≤ length old
    → (r ≡ length line) × (out ≡ line ++ drop r old)
whole_line old line out r w h =
    let size : r ≡ length line = (from_start w).size in
    (size, w.area ∙ written_whole line old (omega arith) ∙ ap (λ (n : ℕ). line ++ drop n old) (sym size))
