-- The loop over the counts of a tally.
use mathlib.Core.Path.{◌≡◌, refl, sym, ap, ◌∙◌}
use mathlib.Core.Bool.{Bool, true, false, cond}
use mathlib.Core.List.{List, [], ◌∷◌}
use Prim.Native.Nat.{ℕ, zero, suc, max, ◌+◌, ◌≤◌, ◌<◌}
use native.Mathlib.Omega.{arith}
use borrow.Author.Tests.{ltb-true, ltb-false}
use lib.Dec.{leb, ltb, leb→le, le→leb}
use lib.ListN.{length, get_or, set, length-set}
use Rattle.lists.specs.Lists.{all}
use Rattle.lists.proofs.Tests.{tests, and_both, all_at, all_implies}
use Rattle.figures.specs.Pass.{raised, AtMost}
use Rattle.figures.proofs.Raising.{raised_from, raise_next}

-- what holds before count k, of counts that were l
pub record Raising (met : ℕ → Bool) (l cs : List ℕ) (k : ℕ) : Type 0 where
  pub left : k ≤ 16
  pub sixteen : length cs ≡ 16
  pub few : AtMost (64 + k) cs
  pub same : raised_from met 0 k cs ≡ raised met 0 l

set_at_most : (n k v : ℕ) (cs : List ℕ) → v ≤ n → AtMost n cs → AtMost n (set cs k v)
set_at_most n k v [] h t = tt
set_at_most n zero v (c ∷ cs) h t = and_both (leb v n) (all (λ (c : ℕ). leb c n) cs) (le→leb v n h) (search tests)
set_at_most n (suc k) v (c ∷ cs) h t =
    and_both (leb c n) (all (λ (c : ℕ). leb c n) (set cs k v)) (search tests) (set_at_most n k v cs h (search tests))

pub count_few : (n k : ℕ) (cs : List ℕ) → AtMost n cs → k < length cs → get_or cs k 0 ≤ n
count_few n k cs t h = leb→le (get_or cs k 0) n (all_at (λ (c : ℕ). leb c n) cs k 0 t h)

module _ (met : ℕ → Bool) (l cs : List ℕ) (k : ℕ) (r : Raising met l cs k) (h : k < 16) where
  pub raised_on : (v : ℕ) → v ≡ cond (met k) (get_or cs k 0 + 1) (get_or cs k 0) → v ≤ get_or cs k 0 + 1 → Raising met l (set cs k v) (k + 1)
  raised_on v e b =
      let here : k < length cs = omega (arith, r.sixteen) in
      let old : get_or cs k 0 ≤ 64 + k = count_few (64 + k) k cs r.few here in
      record {
        left = omega arith;
        sixteen = length-set cs k v ∙ r.sixteen;
        few =
            set_at_most (64 + (k + 1)) k v cs (omega arith)
            (all_implies (λ (c : ℕ). leb c (64 + k)) (λ (c : ℕ). leb c (64 + (k + 1))) (λ c t. le→leb c (64 + (k + 1)) (omega (arith, leb→le c (64 + k) t))) cs r.few);
        same = ap (λ (n : ℕ). raised_from met 0 (k + 1) (set cs k n)) e ∙ sym (raise_next met k cs here) ∙ r.same;
      }

-- the greater of two, by a test
pub greater : (a b : ℕ) → max a b ≡ cond (ltb a b) b a
greater a b = go (ltb a b) refl
  where
    go : (x : Bool) → ltb a b ≡ x → max a b ≡ cond x b a
    go true e = omega (arith, ltb-true a b e)
    go false e = omega (arith, ltb-false a b e)
