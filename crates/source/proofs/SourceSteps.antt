-- The source part of a list, step after step.
use mathlib.Core.List.{List, [], ◌∷◌}
use Prim.Native.Nat.{ℕ, ◌+◌, ◌<◌, ◌≤◌}
use native.Mathlib.Numerals.{add-one}
use lib.Dec.{ltb}
use lib.ListN.{length, get_or, take}
use lib.Seq.{take-suc, take_all}
use Rattle.lists.proofs.Tests.{filter-append}
use Rattle.text.specs.Area.{Wrote, Filled}
use Rattle.text.proofs.Writing.{then, from_start, no_bytes}
use Rattle.source.specs.Source.{below}

module _ (b p : List ℕ) (A : ℕ) where
  pub no_steps : Wrote b 0 (below A (take 0 p)) 0 b
  no_steps = no_bytes b 0

  pub one_step_more : (mid out : List ℕ) (i j k : ℕ) → i < length p
      → Wrote b 0 (below A (take i p)) j mid → Wrote mid j (below A (get_or p i 0 ∷ [])) k out → Wrote b 0 (below A (take (i + 1) p)) k out
  one_step_more mid out i j k h v w =
      rw (add-one i, take-suc p i 0 h, filter-append (λ (n : ℕ). ltb n A) (take i p) (get_or p i 0 ∷ [])) (then v w)

  pub all_steps : (out : List ℕ) (i k : ℕ) → length p ≤ i → Wrote b 0 (below A (take i p)) k out → Filled b (below A p) k out
  all_steps out i k h v = from_start (rw (take_all i p h) at v)
