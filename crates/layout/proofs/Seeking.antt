-- One turn of a search for the first that passes a test.
use mathlib.Core.Path.{◌≡◌}
use mathlib.Core.Bool.{Bool, true, false}
use mathlib.Core.List.{List}
use Prim.Native.Nat.{ℕ, ◌+◌, ◌<◌, ◌≤◌}
use native.Mathlib.Nat.{add-zero}
use native.Mathlib.Numerals.{add-one}
use native.Mathlib.Omega.{arith}
use lib.ListN.{length, drop, get_or, drop_of_length-le}
use lib.Seq.{drop-cons}
use Rattle.lists.specs.Lists.{take_until}

module _ (p : ℕ → Bool) (ms : List ℕ) (i : ℕ) where
  pub take_until_here : i < length ms → p (get_or ms i 0) ≡ true → i + length (take_until p (drop i ms)) ≡ i
  take_until_here h e = rw (drop-cons ms i 0 h, e) (add-zero i)

  pub take_until_on : i < length ms → p (get_or ms i 0) ≡ false
      → i + 1 + length (take_until p (drop (i + 1) ms)) ≡ i + length (take_until p (drop i ms))
  take_until_on h e = rw (drop-cons ms i 0 h, e, add-one) (omega arith)

  pub take_until_end : length ms ≤ i → i + length (take_until p (drop i ms)) ≡ i
  take_until_end h = rw (drop_of_length-le ms {i = i} h) (add-zero i)
