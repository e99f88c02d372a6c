-- The bits of a wanted fact in the two words are the set of that fact.
use mathlib.Core.Path.{◌≡◌, refl, sym, ap, ◌∙◌, fun_ext}
use mathlib.Core.Bool.{Bool, true, false, not, cond, ◌&&◌, and-false, or-false}
use mathlib.Core.List.{List}
use Prim.Native.Nat.{ℕ, zero, suc, ◌-◌, ◌/◌, ◌%◌, ◌^◌, ◌<◌, ◌≤◌}
use native.Mathlib.Omega.{arith}
use lib.Bits.{bit_or, or_zero_r}
use lib.Dec.{eqb}
use lib.ListN.{length, get_or, set}
use lib.Seq.{get_or-set_same, get_or-set_other}
use borrow.Author.Tests.{ne_eqb, le-ltb, eqb-true, eqb-false}
use Rattle.meaning.specs.Meaning.{State as Facts}
use Rattle.state.specs.Member.{member, empty, single, union}
use Rattle.state.specs.declared.State.{State}
use Rattle.state.proofs.Words.{single-low, single-high, single-none, no_facts, joined as united}
use Rattle.spelling.specs.Runs.{joined, mask_of, with_fact, sets_in, slot_of}

abbrev masks : ℕ → Bool → State
masks n wanted = record { low = mask_of n 0 wanted; high = mask_of n 1 wanted }

-- by the fact's word
by_word : (n q : ℕ) → n / 64 ≡ q
    → member (record { low = cond (eqb q 0 && true) (2 ^ (n % 64)) 0; high = cond (eqb q 1 && true) (2 ^ (n % 64)) 0 }) ≡ single n
by_word n zero e = let r : n % 64 ≡ n = omega arith in rw r (single-low n (omega arith))
by_word n (suc zero) e = let r : n % 64 ≡ n - 64 = omega arith in rw r (single-high n (omega arith) (omega arith))
by_word n (suc (suc q)) e = rw (ne_eqb (suc (suc q)) 0 (λ e. omega arith), ne_eqb (suc (suc q)) 1 (λ e. omega arith)) (single-none n (omega arith))

masked : (n : ℕ) (wanted : Bool) → member (masks n wanted) ≡ cond wanted (single n) empty
masked n true = by_word n (n / 64) refl
masked n false = (λ i. member (record { low = cond (and-false (eqb (n / 64) 0) i) (2 ^ (n % 64)) 0; high = cond (and-false (eqb (n / 64) 1) i) (2 ^ (n % 64)) 0 })) ∙ no_facts

added : (f : Facts) (n : ℕ) (wanted : Bool) → union f (cond wanted (single n) empty) ≡ joined wanted f n
added f n true = refl
added f n false = fun_ext (λ m. or-false (f m))

pub joins : (s : State) (n : ℕ) (wanted : Bool)
    → member (record { low = bit_or s.low (mask_of n 0 wanted); high = bit_or s.high (mask_of n 1 wanted) }) ≡ joined wanted (member s) n
joins s n wanted = united s (masks n wanted) ∙ ap (union (member s)) (masked n wanted) ∙ added (member s) n wanted

-- Four words

-- a bit joined to word k: the others stay
stored : (ws : List ℕ) (k j m : ℕ) → k < length ws → get_or (set ws k (bit_or (get_or ws k 0) m)) j 0 ≡ bit_or (get_or ws j 0) (cond (eqb k j) m 0)
stored ws k j m h = go (eqb k j) refl
  where
    go : (t : Bool) → eqb k j ≡ t → get_or (set ws k (bit_or (get_or ws k 0) m)) j 0 ≡ bit_or (get_or ws j 0) (cond t m 0)
    go true e =
        let same : k ≡ j = eqb-true k j e in
        ap (λ (i : ℕ). get_or (set ws k (bit_or (get_or ws k 0) m)) i 0) (sym same) ∙ get_or-set_same ws k (bit_or (get_or ws k 0) m) 0 h
        ∙ ap (λ (i : ℕ). bit_or (get_or ws i 0) m) same
    go false e = get_or-set_other ws k j (bit_or (get_or ws k 0) m) 0 (λ p. eqb-false k j e (sym p)) ∙ sym (or_zero_r (get_or ws j 0))

slot_tests : (b : Bool) (q : ℕ) → q < 2
    → (eqb (slot_of b q) 0 ≡ (eqb q 0 && b)) × (eqb (slot_of b q) 1 ≡ (eqb q 1 && b)) × (eqb (slot_of b q) 2 ≡ (eqb q 0 && not b)) × (eqb (slot_of b q) 3 ≡ (eqb q 1 && not b))
slot_tests true zero h = (refl, refl, refl, refl)
slot_tests true (suc zero) h = (refl, refl, refl, refl)
slot_tests false zero h = (refl, refl, refl, refl)
slot_tests false (suc zero) h = (refl, refl, refl, refl)
slot_tests b (suc (suc q)) h = absurd (omega arith)

pub slot_within : (n : ℕ) (b : Bool) → n < 128 → slot_of b (n / 64) < 4
slot_within n true h = omega arith
slot_within n false h = omega arith

module _ (ws : List ℕ) (long : length ws ≡ 4) (n : ℕ) (b : Bool) where
  pub takes_in : (h : n < 128) → sets_in (set ws (slot_of b (n / 64)) (bit_or (get_or ws (slot_of b (n / 64)) 0) (2 ^ (n % 64)))) ≡ with_fact b (sets_in ws) n
  takes_in h =
      let k : ℕ = slot_of b (n / 64) in
      let m : ℕ = 2 ^ (n % 64) in
      let t = slot_tests b (n / 64) (omega arith) in
      let at : (j : ℕ) (u : Bool) → eqb k j ≡ u → get_or (set ws k (bit_or (get_or ws k 0) m)) j 0 ≡ bit_or (get_or ws j 0) (cond u m 0) =
      λ j u e. stored ws k j m (omega (arith, slot_within n b h, long)) ∙ ap (λ (x : Bool). bit_or (get_or ws j 0) (cond x m 0)) e in
      λ i. record {
        first = ((λ z. member (record { low = at 0 _ t.0 z; high = at 1 _ t.1 z })) ∙ joins (record { low = get_or ws 0 0; high = get_or ws 1 0 }) n b) i;
        second = ((λ z. member (record { low = at 2 _ t.2 z; high = at 3 _ t.3 z })) ∙ joins (record { low = get_or ws 2 0; high = get_or ws 3 0 }) n (not b)) i;
      }

  -- no fact from 128 on is in a set
  pub left_out : 128 ≤ n → sets_in ws ≡ with_fact b (sets_in ws) n
  left_out h = λ i. record { first = nothing_joined (sets_in ws).first b i; second = nothing_joined (sets_in ws).second (not b) i }
    where
      nothing_joined : (f : Facts) (wanted : Bool) → f ≡ joined wanted f n
      nothing_joined f true = fun_ext (λ m. rw (le-ltb n 128 h) (sym (or-false (f m))))
      nothing_joined f false = refl
