-- Counts written one after the other behind the first words of an answer.
use mathlib.Core.Path.{◌≡◌, refl, sym, ap, ◌∙◌}
use mathlib.Core.List.{List, ◌∷◌, ◌++◌, map}
use Prim.Native.Nat.{ℕ, zero, suc, ◌+◌, ◌-◌, ◌<◌}
use native.Mathlib.Omega.{arith}
use lib.ListN.{length, set, replicate, length-map}
use Rattle.std.proofs.lemmas.List.{set-append_right}
use Rattle.lists.specs.Lists.{range}

length_range : (a n : ℕ) → length (range a n) ≡ n
length_range a zero = refl
length_range a (suc n) = ap suc (length_range (a + 1) n)

module _ (f : ℕ → ℕ) where
  -- the n counts from a on
  abbrev pub counts : ℕ → ℕ → List ℕ
  counts a n = map f (range a n)

  one_more : (a n : ℕ) (zs : List ℕ) → counts a n ++ f (a + n) ∷ zs ≡ counts a (suc n) ++ zs
  one_more a zero zs = let e : a + 0 ≡ a = omega arith in ap (λ (k : ℕ). f k ∷ zs) e
  one_more a (suc n) zs =
      let e : a + suc n ≡ a + 1 + n = omega arith in
      ap (λ (k : ℕ). f a ∷ counts (a + 1) n ++ f k ∷ zs) e ∙ ap (λ (l : List ℕ). f a ∷ l) (one_more (a + 1) n zs)

  -- k of n counts after the words xs, and 0 for each of the others
  abbrev pub filled : List ℕ → ℕ → ℕ → List ℕ
  filled xs n k = xs ++ (counts 0 k ++ replicate (n - k) 0)

  pub next : (xs : List ℕ) (m n k : ℕ) → length xs ≡ m → k < n → set (filled xs n k) (m + k) (f k) ≡ filled xs n (k + 1)
  next xs m n k size less =
      let past : m + k - m ≡ k = omega arith in
      let at : 0 + k ≡ k = omega arith in
      let here : k - k ≡ 0 = omega arith in
      let left : n - k ≡ suc (n - (k + 1)) = omega arith in
      let long : length (counts 0 k) ≡ k = length-map (range 0 k) f ∙ length_range 0 k in
      let one : k + 1 ≡ suc k = omega arith in
      set-append_right xs (counts 0 k ++ replicate (n - k) 0) m (m + k) (f k) size (omega arith)
      ∙ ap (λ (j : ℕ). xs ++ set (counts 0 k ++ replicate (n - k) 0) j (f k)) past
      ∙ ap (λ (l : List ℕ). xs ++ l) (set-append_right (counts 0 k) (replicate (n - k) 0) k k (f k) long (omega arith)
      ∙ (λ i. counts 0 k ++ set (replicate (left i) 0) (here i) (f k))
      ∙ ap (λ (j : ℕ). counts 0 k ++ f j ∷ replicate (n - (k + 1)) 0) (sym at)
      ∙ one_more 0 k (replicate (n - (k + 1)) 0)
      ∙ ap (λ (j : ℕ). counts 0 j ++ replicate (n - (k + 1)) 0) (sym one))
