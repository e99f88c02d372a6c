-- Bytes written into an area.
use Rattle.std.specs.Prelude.{◌≡◌, List, ℕ, ◌+◌, length}
use Rattle.std.proofs.lemmas.List.Edits.{sets}

-- b with xs from place `at` on, as far as b reaches
unfoldable pub written : List ℕ → ℕ → List ℕ → List ℕ
written xs at b = sets b at xs

-- xs was written into b from place `at` on: r is the place after it, and out the area then
pub record Wrote (b : List ℕ) (at : ℕ) (xs : List ℕ) (r : ℕ) (out : List ℕ) : Type 0 where
  pub after : r ≡ at + length xs
  pub area : out ≡ written xs at b

-- xs was written from the start of b on: r is its length, and out the area then
pub record Filled (b xs : List ℕ) (r : ℕ) (out : List ℕ) : Type 0 where
  pub size : r ≡ length xs
  pub area : out ≡ written xs 0 b
