-- What single effects and lists of them add and delete.
use mathlib.Core.Path.{◌≡◌, refl, sym, ◌∙◌, ap, ap₂}
use mathlib.Core.Logic.{◌≢◌}
use mathlib.Core.Bool.{Bool, true, false, and-false, and-true, or-false, not, ◌&&◌, ◌||◌}
use mathlib.Core.List.{List, [], ◌∷◌, ◌++◌, map}
use Prim.Native.Nat.{ℕ, zero, suc, ◌+◌, ◌<◌}
use native.Mathlib.Nat.{add-zero, le_of_suc-le-suc, not-suc-le-zero}
use native.Mathlib.Omega.{arith}
use lib.ListN.{length, get_or}
use Rattle.lists.specs.Lists.{any, concat_map, concat_from, elem}
use Rattle.meaning.specs.Task.{Condition, Effect}
use Rattle.meaning.specs.Meaning.{State, is_true, literal_true}
use Rattle.classical.specs.Translation.{deny, alone, each_false, effect}
use Rattle.lists.proofs.Tests.{is_true_lem, is_false}
use Rattle.meaning.proofs.Conditions.{both_parts}
use Rattle.meaning.proofs.Effects.{added, deleted, added_none, added-append, deleted_none, deleted_append}
use Rattle.classical.proofs.Conditions.{denied}

-- one effect more
module _ (s : State) (c : Condition) (ns ms : List ℕ) (es : List Effect) (n : ℕ) where
  pub added_more : added s (effect c ns ms ∷ es) n ≡ (is_true s c && elem n ns || added s es n)
  unfolding added
  added_more = refl

  pub deleted_more : deleted s (effect c ns ms ∷ es) n ≡ (is_true s c && elem n ms || deleted s es n)
  unfolding deleted
  deleted_more = refl

one_clause_more : (g c φ x : Bool) → ((g && not c && x) || (g && not φ && x)) ≡ (g && not (c && φ) && x)
one_clause_more true true φ x = refl
one_clause_more true false φ true = refl
one_clause_more true false true false = refl
one_clause_more true false false false = refl
one_clause_more false c φ x = refl

module _ (s : State) (g : Condition) (ns : List ℕ) (n : ℕ) where
  -- some effect of each false clause fires where g is true and φ is not
  pub each_false_adds : (φ : Condition) → added s (each_false g φ ns) n ≡ (is_true s g && not (is_true s φ) && elem n ns)
  each_false_adds [] = added_none s n ∙ rw and-false
  each_false_adds (c ∷ φ) =
      added_more s (g ++ alone (map deny c)) ns [] (each_false g φ ns) n
      ∙ ap₂ (λ (x y : Bool). x && elem n ns || y)
      (both_parts s g (alone (map deny c)) ∙ ap (λ (b : Bool). is_true s g && b) (denied s c))
      (each_false_adds φ)
      ∙ one_clause_more (is_true s g) (any (literal_true s) c) (is_true s φ) (elem n ns)

  pub each_false_deletes : (φ : Condition) → deleted s (each_false g φ ns) n ≡ false
  each_false_deletes [] = deleted_none s n
  each_false_deletes (c ∷ φ) =
      deleted_more s (g ++ alone (map deny c)) ns [] (each_false g φ ns) n
      ∙ ap₂ ◌||◌ (and-false (is_true s (g ++ alone (map deny c)))) (each_false_deletes φ)

-- the effects of a list, one by one
pub ruleset adding = (added_none, added-append, each_false_adds, added_more)

pub ruleset deleting = (deleted_none, deleted_append, each_false_deletes, deleted_more)

pub ruleset reading = (adding, deleting)

-- tests against true and false
pub ruleset plain = (is_true_lem, is_false, and-false, and-true, or-false)

-- effects in groups: what holds of adding and of deleting
module _ {A : Type 0} (touched : List Effect → Bool) (empty : touched [] ≡ false)
    (join : (es fs : List Effect) → touched (es ++ fs) ≡ (touched es || touched fs)) where
  pub grouped : (f : A → List Effect) (xs : List A) → touched (concat_map f xs) ≡ any (λ (x : A). touched (f x)) xs
  grouped f [] = empty
  grouped f (x ∷ xs) = join (f x) (concat_map f xs) ∙ ap (λ (b : Bool). touched (f x) || b) (grouped f xs)

  -- groups by number, x at place i of a list being number k + i
  module _ (f : ℕ → A → List Effect) (d : A) where
    first_group : (k : ℕ) (x : A) → touched (f k x) ≡ touched (f (k + 0) x)
    first_group k x = ap (λ (m : ℕ). touched (f m x)) (sym (add-zero k))

    later_group : (k i : ℕ) (x : A) → touched (f (k + 1 + i) x) ≡ touched (f (k + suc i) x)
    later_group k i x = let e : k + 1 + i ≡ k + suc i = omega arith in ap (λ (m : ℕ). touched (f m x)) e

    pub none_touches : (k : ℕ) (xs : List A) → ((i : ℕ) → i < length xs → touched (f (k + i) (get_or xs i d)) ≡ false) → touched (concat_from f k xs) ≡ false
    none_touches k [] none = empty
    none_touches k (x ∷ xs) none =
        join (f k x) (concat_from f (k + 1) xs)
        ∙ ap₂ ◌||◌ (first_group k x ∙ none 0 (omega arith))
        (none_touches (k + 1) xs (λ i h. later_group k i (get_or xs i d) ∙ none (suc i) (omega arith)))

    pub one_touches : (k i : ℕ) (xs : List A) → i < length xs → ((j : ℕ) → j < length xs → j ≢ i → touched (f (k + j) (get_or xs j d)) ≡ false)
        → touched (concat_from f k xs) ≡ touched (f (k + i) (get_or xs i d))
    one_touches k i [] h others = absurd (not-suc-le-zero h)
    one_touches k zero (x ∷ xs) h others =
        join (f k x) (concat_from f (k + 1) xs)
        ∙ ap₂ ◌||◌ (first_group k x) (none_touches (k + 1) xs (λ j l. later_group k j (get_or xs j d) ∙ others (suc j) (omega arith) (omega arith)))
        ∙ or-false (touched (f (k + 0) x))
    one_touches k (suc i) (x ∷ xs) h others =
        join (f k x) (concat_from f (k + 1) xs)
        ∙ ap₂ ◌||◌ (first_group k x ∙ others 0 (omega arith) (omega arith))
        (one_touches (k + 1) i xs (le_of_suc-le-suc h) (λ j l o. later_group k j (get_or xs j d) ∙ others (suc j) (omega arith) (omega arith))
        ∙ later_group k i (get_or xs i d))
