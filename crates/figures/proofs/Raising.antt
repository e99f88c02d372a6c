-- The counts of a tally, raised one by one: the laws that a loop over them cites.
use mathlib.Core.Path.{◌≡◌, refl, sym, ap, ◌∙◌}
use mathlib.Core.Bool.{Bool, cond}
use mathlib.Core.List.{List, [], ◌∷◌}
use Prim.Native.Nat.{ℕ, zero, suc, ◌+◌, ◌≤◌, ◌<◌}
use native.Mathlib.Nat.{add-zero, zero-add}
use native.Mathlib.Numerals.{add-one}
use native.Mathlib.Omega.{arith}
use lib.ListN.{length, get_or, set}
use Rattle.figures.specs.Pass.{raised}

module _ (met : ℕ → Bool) where
  -- the counts from place k on, the first of the list being number j
  abbrev pub raised_from : ℕ → ℕ → List ℕ → List ℕ
  raised_from j zero cs = raised met j cs
  raised_from j (suc k) [] = []
  raised_from j (suc k) (c ∷ cs) = c ∷ raised_from (j + 1) k cs

  step : (j k : ℕ) (cs : List ℕ) → k < length cs
      → raised_from j k cs ≡ raised_from j (suc k) (set cs k (cond (met (j + k)) (get_or cs k 0 + 1) (get_or cs k 0)))
  step j k [] h = absurd (omega arith)
  step j zero (c ∷ cs) h = ap (λ (n : ℕ). cond (met n) (c + 1) c ∷ raised met (j + 1) cs) (sym (add-zero j))
  step j (suc k) (c ∷ cs) h =
      let shift : j + 1 + k ≡ j + suc k = omega arith in
      ap (λ (l : List ℕ). c ∷ l) (step (j + 1) k cs (omega arith))
      ∙ ap (λ (n : ℕ). c ∷ raised_from (j + 1) (suc k) (set cs k (cond (met n) (get_or cs k 0 + 1) (get_or cs k 0)))) shift

  -- the count at place k is raised where number k is in the set
  pub raise_next : (k : ℕ) (cs : List ℕ) → k < length cs
      → raised_from 0 k cs ≡ raised_from 0 (k + 1) (set cs k (cond (met k) (get_or cs k 0 + 1) (get_or cs k 0)))
  raise_next k cs h =
      rw (add-one k) (step 0 k cs h ∙ ap (λ (n : ℕ). raised_from 0 (suc k) (set cs k (cond (met n) (get_or cs k 0 + 1) (get_or cs k 0)))) (zero-add k))

  pub raise_end : (j k : ℕ) (cs : List ℕ) → length cs ≤ k → raised_from j k cs ≡ cs
  raise_end j zero [] h = refl
  raise_end j (suc k) [] h = refl
  raise_end j zero (c ∷ cs) h = absurd (omega arith)
  raise_end j (suc k) (c ∷ cs) h = ap (λ (l : List ℕ). c ∷ l) (raise_end (j + 1) k cs (omega arith))
