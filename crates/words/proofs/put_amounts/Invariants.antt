-- The words before the counts are written, and the first k counts.
use mathlib.Core.Path.{◌≡◌}
use mathlib.Core.List.{[], ◌∷◌}
use Prim.Native.Nat.{ℕ}
use lib.ListN.{get_or, take}
use Rattle.words.proofs.Counts.{filled}
use Rattle.words.proofs.put_amounts.Given as goal

abbrev pub invariant-loop-k : goal.invariant-loop-k
invariant-loop-k l =
    let a = l.a in
    l.answer ≡ filled (λ (k : ℕ). get_or (take a.preferences a.meeting) k 0) (0 ∷ a.solving ∷ a.least ∷ a.greatest ∷ a.sum ∷ a.mean ∷ a.remainder ∷ 0 ∷ []) 16 l.k
