-- States that hold no fact from F on, and when two of them are the same.
use mathlib.Core.Path.{◌≡◌, refl, sym, ◌∙◌, ap₂, subst, fun_ext}
use mathlib.Core.Bool.{Bool, true, false, ◌&&◌, beq, true≢false}
use Prim.Native.Nat.{ℕ, zero, suc, ◌<◌, ◌≤◌}
use native.Mathlib.Nat.{not-suc-le-zero}
use native.Mathlib.Decide.{dec_le, ℕ_discrete}
use native.Mathlib.Omega.{arith}
use lib.Dec.{T}
use Rattle.meaning.specs.Task.{Task, well_formed}
use Rattle.meaning.specs.Meaning.{State, opening, after, action_at}
use Rattle.lists.proofs.Tests.{both_true}
use Rattle.meaning.proofs.WellFormed.{action_count, start_below, effects_below}
use Rattle.meaning.proofs.Effects.{after_is, changed_none, adds_none_out, deletes_none_out, not_among}
use Rattle.searching.specs.Search.{same}
use Rattle.searching.specs.States.{Below}

module _ (t : Task) (wf : T (well_formed t)) where
  pub opening_below : Below t.facts (opening t)
  opening_below n h = not_among t.facts n h t.start (start_below t wf)

  pub after_below : (s : State) (k : ℕ) → k < action_count t → Below t.facts s → Below t.facts (after s (action_at t k))
  after_below s k h b n out =
      after_is s (action_at t k) n
      ∙ changed_none s (action_at t k).effects n
      (adds_none_out t.facts n out s (action_at t k).effects (effects_below t wf k h))
      (deletes_none_out t.facts n out s (action_at t k).effects (effects_below t wf k h))
      ∙ b n out

-- Sameness

beq_equal : (a b : Bool) → beq a b ≡ true → a ≡ b
beq_equal true true e = refl
beq_equal true false e = absurd (true≢false (sym e))
beq_equal false true e = absurd (true≢false (sym e))
beq_equal false false e = refl

beq_refl : (a : Bool) → beq a a ≡ true
beq_refl true = refl
beq_refl false = refl

same_below : (F : ℕ) (s r : State) → same F s r ≡ true → (n : ℕ) → n < F → s n ≡ r n
same_below zero s r e n h = absurd (not-suc-le-zero h)
same_below (suc F) s r e n h = go (both_true (same F s r) (beq (s F) (r F)) e) (same_below F s r) (ℕ_discrete n F)
  where
    go : (same F s r ≡ true) × (beq (s F) (r F) ≡ true) → (same F s r ≡ true → (m : ℕ) → m < F → s m ≡ r m) → Dec (n ≡ F) → s n ≡ r n
    go parts lower (yes q) = rw q (beq_equal (s F) (r F) parts.1)
    go parts lower (no q) = lower parts.0 n (omega arith)

pub same_equal : (F : ℕ) (s r : State) → Below F s → Below F r → same F s r ≡ true → s ≡ r
same_equal F s r a b e = fun_ext (λ n. go n (dec_le F n))
  where
    go : (n : ℕ) → Dec (F ≤ n) → s n ≡ r n
    go n (yes h) = a n h ∙ sym (b n h)
    go n (no h) = same_below F s r e n (omega arith)

same_refl : (F : ℕ) (s : State) → same F s s ≡ true
same_refl zero s = refl
same_refl (suc F) s = ap₂ ◌&&◌ (same_refl F s) (beq_refl (s F))

pub equal_same : (F : ℕ) (s r : State) → s ≡ r → same F s r ≡ true
equal_same F s r e = subst (λ (x : State). same F s x ≡ true) e (same_refl F s)

-- the test tells different states apart
pub differ : (F : ℕ) (s r : State) → same F s r ≡ false → s ≡ r → ⊥
differ F s r e q = true≢false (sym (equal_same F s r q) ∙ e)
