-- A task file that was cut is refused: under 8 bytes by 1, else by 3, since its rows are those of the whole file.
use mathlib.Core.Path.{◌≡◌, refl, sym, ◌∙◌}
use mathlib.Core.Bool.{Bool, true, false, cond}
use mathlib.Core.List.{List}
use Prim.Native.Nat.{ℕ, ◌+◌, ◌*◌, ◌<◌, ◌≤◌}
use native.Mathlib.Omega.{arith}
use lib.Dec.{ltb}
use lib.ListN.{length, take, length-take}
use lib.Seq.{get_or-take}
use borrow.Author.Tests.{ltb-true, ltb-false}
use Rattle.task.specs.File.{Sizes, sizes, word16}
use Rattle.task.specs.Check.{accepted, refused, check, sizes_allowed}
use Rattle.lists.proofs.Tests.{as_true}
use Rattle.task.proofs.Spelled.{Spelling, accepted_spelling}
use Rattle.task.proofs.Checking.{short, wrong_length}

-- the four sizes stand in the first 8 bytes
same_sizes : (b : List ℕ) (n : ℕ) → 8 ≤ n → sizes (take n b) ≡ sizes b
same_sizes b n h =
    λ i.
    record {
      facts = size 0 (omega arith) i;
      actions = size 2 (omega arith) i;
      preferences = size 4 (omega arith) i;
      rows = size 6 (omega arith) i;
    }
  where
    size : (k : ℕ) → k + 1 < 8 → word16 (take n b) k ≡ word16 b k
    size k l = λ i. get_or-take n b k 0 (omega (arith, h, l)) i + 256 * get_or-take n b (k + 1) 0 (omega (arith, h, l)) i

pub cut : (b : List ℕ) (z : Sizes) → check b ≡ accepted z → (n : ℕ) → n < length b → check (take n b) ≡ cond (ltb n 8) (refused 1 0) (refused 3 0)
cut b z h n less = go (ltb n 8) refl
  where
    s : Spelling b z
    s = accepted_spelling b z h

    size : length (take n b) ≡ n
    size = omega (arith, less, length-take n b)

    go : (x : Bool) → ltb n 8 ≡ x → check (take n b) ≡ cond x (refused 1 0) (refused 3 0)
    go true e = short (take n b) (omega (arith, size, ltb-true n 8 e))
    go false e =
        wrong_length (take n b) z (s.same ∙ sym (same_sizes b n (ltb-false n 8 e))) (omega (arith, size, ltb-false n 8 e))
        (as_true (sizes_allowed z) s.allowed) (λ q. omega (arith, q, less, size, s.exact))
