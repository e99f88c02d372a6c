-- The state after an action, fact by fact.
use mathlib.Core.Path.{◌≡◌, refl, ◌∙◌, ap, ap₂}
use mathlib.Core.Logic.{◌≢◌}
use mathlib.Core.Bool.{Bool, false, not, ◌&&◌, ◌||◌, and-false, and-true, or-false}
use mathlib.Core.List.{List, [], ◌∷◌, ◌++◌}
use Prim.Native.Nat.{ℕ, ◌<◌, ◌≤◌}
use native.Mathlib.Omega.{arith}
use lib.Dec.{T, ltb→lt}
use Rattle.lists.specs.Lists.{all, any, elem, filter, concat_map}
use Rattle.meaning.specs.Task.{Effect, Action, facts_below, effect_below}
use Rattle.meaning.specs.Meaning.{State, is_true, after}
use Rattle.lists.proofs.Tests.{tests, other_false, any_same, any_append, any-filter, elem-concat}
use Rattle.meaning.proofs.Conditions.{Agree, same_truth}

-- some effect that fires adds n
unfoldable pub added : State → List Effect → ℕ → Bool
added s es n = any (λ (e : Effect). is_true s e.condition && elem n e.adds) es

unfoldable pub deleted : State → List Effect → ℕ → Bool
deleted s es n = any (λ (e : Effect). is_true s e.condition && elem n e.deletes) es

-- n after the effects
unfoldable pub changed : State → List Effect → State
changed s es n = added s es n || s n && not (deleted s es n)

pub after_is : (s : State) (a : Action) (n : ℕ) → after s a n ≡ changed s a.effects n
unfolding added deleted changed
after_is s a n =
    ap₂ (λ (x y : Bool). x || s n && not y) (from_fired (λ (e : Effect). e.adds)) (from_fired (λ (e : Effect). e.deletes))
  where
    from_fired : (f : Effect → List ℕ)
        → elem n (concat_map f (filter (λ (e : Effect). is_true s e.condition) a.effects))
        ≡ any (λ (e : Effect). is_true s e.condition && elem n (f e)) a.effects
    from_fired f =
        elem-concat n f (filter (λ (e : Effect). is_true s e.condition) a.effects)
        ∙ any-filter (λ (e : Effect). is_true s e.condition) (λ (e : Effect). elem n (f e)) a.effects

pub added_none : (s : State) (n : ℕ) → added s [] n ≡ false
unfolding added
added_none s n = refl

pub deleted_none : (s : State) (n : ℕ) → deleted s [] n ≡ false
unfolding deleted
deleted_none s n = refl

pub added-append : (s : State) (es fs : List Effect) (n : ℕ) → added s (es ++ fs) n ≡ (added s es n || added s fs n)
unfolding added
added-append s es fs n = any_append (λ (e : Effect). is_true s e.condition && elem n e.adds) es fs

pub deleted_append : (s : State) (es fs : List Effect) (n : ℕ) → deleted s (es ++ fs) n ≡ (deleted s es n || deleted s fs n)
unfolding deleted
deleted_append s es fs n = any_append (λ (e : Effect). is_true s e.condition && elem n e.deletes) es fs

-- a fact that some of the effects leave alone
pub changed_none : (s : State) (es : List Effect) (n : ℕ) → added s es n ≡ false → deleted s es n ≡ false → changed s es n ≡ s n
unfolding changed
changed_none s es n p q = rw (p, q) (and-true (s n))

pub changed_left : (s : State) (es fs : List Effect) (n : ℕ) → added s fs n ≡ false → deleted s fs n ≡ false
    → changed s (es ++ fs) n ≡ changed s es n
unfolding changed
changed_left s es fs n p q = simp (added-append, deleted_append, p, q, or-false)

pub changed_right : (s : State) (es fs : List Effect) (n : ℕ) → added s es n ≡ false → deleted s es n ≡ false
    → changed s (es ++ fs) n ≡ changed s fs n
unfolding changed
changed_right s es fs n p q = simp (added-append, deleted_append, p, q)

-- effects below F, in two states that agree below F
module _ (F : ℕ) (s r : State) (agree : Agree F s r) (n : ℕ) where
  same_firing : (f : Effect → List ℕ) (e : Effect) → T (effect_below F e)
      → (is_true s e.condition && elem n (f e)) ≡ (is_true r e.condition && elem n (f e))
  same_firing f e t = ap (λ (b : Bool). b && elem n (f e)) (same_truth F s r agree e.condition (search tests))

  same_firings : (f : Effect → List ℕ) (es : List Effect) → T (all (effect_below F) es)
      → any (λ (e : Effect). is_true s e.condition && elem n (f e)) es
      ≡ any (λ (e : Effect). is_true r e.condition && elem n (f e)) es
  same_firings f =
      any_same (λ (e : Effect). is_true s e.condition && elem n (f e))
      (λ (e : Effect). is_true r e.condition && elem n (f e))
      (effect_below F) (same_firing f)

  pub same_change : (es : List Effect) → T (all (effect_below F) es) → n < F → changed s es n ≡ changed r es n
  unfolding added deleted changed
  same_change es t h =
      λ i. same_firings (λ (e : Effect). e.adds) es t i
      || agree n h i && not (same_firings (λ (e : Effect). e.deletes) es t i)

-- effects below F leave alone what is not below F
module _ (F n : ℕ) (out : F ≤ n) where
  pub not_among : (ns : List ℕ) → T (facts_below F ns) → elem n ns ≡ false
  not_among [] t = refl
  not_among (m ∷ ns) t =
      let h : m < F = ltb→lt m F (search tests) in
      let other : n ≢ m = omega arith in
      ap₂ ◌||◌ (other_false other) (not_among ns (search tests))

  pub adds_none_out : (s : State) (es : List Effect) → T (all (effect_below F) es) → added s es n ≡ false
  unfolding added
  adds_none_out s [] t = refl
  adds_none_out s (e ∷ es) t =
      let first : T (effect_below F e) = search tests in
      rw (not_among e.adds (search tests), and-false) (adds_none_out s es (search tests))

  pub deletes_none_out : (s : State) (es : List Effect) → T (all (effect_below F) es) → deleted s es n ≡ false
  unfolding deleted
  deletes_none_out s [] t = refl
  deletes_none_out s (e ∷ es) t =
      let first : T (effect_below F e) = search tests in
      rw (not_among e.deletes (search tests), and-false) (deletes_none_out s es (search tests))
