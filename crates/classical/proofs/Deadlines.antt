-- The trackers of within and always-within step their monitor.
use mathlib.Core.Path.{◌≡◌, refl, sym, ◌∙◌, ap, ap₂, subst}
use mathlib.Core.Logic.{◌≢◌}
use mathlib.Core.Bool.{Bool, true, false, not, cond, ◌&&◌, ◌||◌, and-false, and-true, or-false, or-true, true≢false}
use mathlib.Core.List.{List, [], ◌∷◌, ◌++◌, map}
use Prim.Native.Nat.{ℕ, zero, suc, ◌+◌, ◌-◌, ◌≤◌, ◌<◌}
use native.Mathlib.Numerals.{add-one}
use native.Mathlib.Omega.{arith}
use lib.Dec.{leb, eqb}
use borrow.Author.Tests.{ne_eqb, eq-eqb, eqb-true, eqb-false, le-leb, lt-leb, leb-true, leb-false}
use Rattle.lists.specs.Lists.{singleton, any, elem, range, concat_map}
use Rattle.meaning.specs.Task.{within, always_within, Condition, Effect}
use Rattle.meaning.specs.Meaning.{State, is_true}
use Rattle.meaning.specs.Monitor.{older, next_s, next_b, next_age}
use Rattle.classical.specs.Translation.{holds_fact, lacks_fact, alone, effect, each_false, fact_d, trackers_of}
use Rattle.lists.proofs.Tests.{other_false}
use Rattle.meaning.proofs.Effects.{added, deleted, changed, added_none, added-append, deleted_none, deleted_append}
use Rattle.classical.proofs.Conditions.{holds_alone}
use Rattle.classical.proofs.Adding.{added_more, deleted_more, each_false_adds, each_false_deletes, adding, deleting, plain, grouped}

-- A test of one number after the other

module _ (f : ℕ → Bool) where
  none_of_lem : (k m : ℕ) → ((j : ℕ) → k ≤ j → j < k + m → f j ≡ false) → any f (range k m) ≡ false
  none_of_lem k zero h = refl
  none_of_lem k (suc m) h = ap₂ ◌||◌ (h k (omega arith) (omega arith)) (none_of_lem (k + 1) m (λ j lo hi. h j (omega arith) (omega arith)))

  only_one : (i k m : ℕ) → k ≤ i → i < k + m → ((j : ℕ) → k ≤ j → j < k + m → j ≢ i → f j ≡ false) → any f (range k m) ≡ f i
  only_one i k zero lo hi h = absurd (omega arith)
  only_one i k (suc m) lo hi h = go (eqb k i) refl (λ more. only_one i (k + 1) m more (omega arith) (λ j l r. h j (omega arith) (omega arith)))
    where
      go : (b : Bool) → eqb k i ≡ b → (k + 1 ≤ i → any f (range (k + 1) m) ≡ f i) → (f k || any f (range (k + 1) m)) ≡ f i
      go true e rest =
          let same : k ≡ i = eqb-true k i e in
          ap₂ ◌||◌ (ap f same) (none_of_lem (k + 1) m (λ j l r. h j (omega arith) (omega arith) (omega arith))) ∙ or-false (f i)
      go false e rest =
          let other : k ≢ i = eqb-false k i e in
          ap₂ ◌||◌ (h k (omega arith) (omega arith) other) (rest (omega arith))

-- Ages

-- D of j holds where the age is at least j
abbrev pub Ages : State → ℕ → ℕ → ℕ → Type 0
Ages s E d n = (j : ℕ) → 1 ≤ j → j ≤ d → s (E + j) ≡ leb j n

not_yet : (n t : ℕ) → not (leb (t + 1) n) ≡ leb n t
not_yet n t = go (leb n t) refl
  where
    go : (b : Bool) → leb n t ≡ b → not (leb (t + 1) n) ≡ b
    go true e = let h : n ≤ t = leb-true n t e in ap not (lt-leb (t + 1) n (omega arith))
    go false e = let h : t < n = leb-false n t e in ap not (le-leb (t + 1) n (omega arith))

pub ages_by : (s : State) (E d n : ℕ) → ((i : ℕ) → i < d → s (E + (i + 1)) ≡ leb (i + 1) n) → Ages s E d n
ages_by s E d n h zero lo hi = absurd (omega arith)
ages_by s E d n h (suc i) lo hi = subst (λ (j : ℕ). s (E + j) ≡ leb j n) (add-one i) (h i (omega arith))

-- one state more: D of i + 1 comes from D of i, up to D of t + 1
older_is : (i n t : ℕ) → i ≤ t → (leb i n || leb (i + 1) n) ≡ leb (i + 1) (older t n)
older_is i n t h = go (leb n t) refl
  where
    go : (b : Bool) → leb n t ≡ b → (leb i n || leb (i + 1) n) ≡ leb (i + 1) (cond b (n + 1) n)
    go true e = below (leb i n) refl
      where
        below : (b : Bool) → leb i n ≡ b → (b || leb (i + 1) n) ≡ leb (i + 1) (n + 1)
        below true p = let l : i ≤ n = leb-true i n p in sym (le-leb (i + 1) (n + 1) (omega arith))
        below false p =
            let l : n < i = leb-false i n p in
            lt-leb (i + 1) n (omega arith) ∙ sym (lt-leb (i + 1) (n + 1) (omega arith))
    go false e =
        let l : t < n = leb-false n t e in
        ap₂ ◌||◌ (le-leb i n (omega arith)) (le-leb (i + 1) n (omega arith)) ∙ sym (le-leb (i + 1) n (omega arith))

-- the same with φ for D of 0: a state with φ begins to wait, and one that waits goes on
aged : (i n t : ℕ) → i ≤ t → (f w : Bool) → leb 1 n ≡ w → (cond (eqb i 0) f (leb i n) || leb (i + 1) n) ≡ leb (i + 1) (cond (f || w) (older t n) 0)
aged zero n t h true w e = ap (λ (b : Bool). b || leb (0 + 1) n) (sym (le-leb 0 n (omega arith))) ∙ older_is 0 n t h
aged zero n t h false true e = e ∙ ap (λ (b : Bool). b || leb (0 + 1) n) (sym (le-leb 0 n (omega arith))) ∙ older_is 0 n t h
aged zero n t h false false e = e
aged (suc i) n t h f w e =
    ap (λ (b : Bool). cond b f (leb (suc i) n) || leb (suc i + 1) n) (ne_eqb (suc i) 0 (omega arith)) ∙ go (f || w) refl
  where
    go : (b : Bool) → (f || w) ≡ b → (leb (suc i) n || leb (suc i + 1) n) ≡ leb (suc i + 1) (cond b (older t n) 0)
    go true p = older_is (suc i) n t h
    go false p =
        let l : n < 1 = leb-false 1 n (e ∙ neither f w p) in
        ap₂ ◌||◌ (lt-leb (suc i) n (omega arith)) (lt-leb (suc i + 1) n (omega arith)) ∙ sym (lt-leb (suc i + 1) 0 (omega arith))
      where
        neither : (f w : Bool) → (f || w) ≡ false → w ≡ false
        neither true w q = absurd (true≢false q)
        neither false w q = q

module _ (s : State) (S B E t : ℕ) (low_s : S ≤ E) (low_b : B ≤ E) (φ ψ : Condition) (last : Bool) where
  -- within

  abbrev onwards : ℕ → Effect
  onwards j = effect (alone (singleton (holds_fact (E + j)))) (singleton (E + (j + 1))) []

  abbrev reaches : Effect
  reaches = effect (alone (singleton (lacks_fact (E + (t + 1)))) ++ φ) (singleton S) []

  module _ (n : ℕ) where
    onwards_add : (k m : ℕ) → added s (map onwards (range k m)) n ≡ any (λ (j : ℕ). s (E + j) && eqb n (E + (j + 1))) (range k m)
    onwards_add k zero = added_none s n
    onwards_add k (suc m) =
        added_more s (alone (singleton (holds_fact (E + k)))) (singleton (E + (k + 1))) [] (map onwards (range (k + 1) m)) n
        ∙ ap₂ ◌||◌ (ap₂ ◌&&◌ (holds_alone s (E + k)) (or-false (eqb n (E + (k + 1))))) (onwards_add (k + 1) m)

    onwards_delete : (k m : ℕ) → deleted s (map onwards (range k m)) n ≡ false
    onwards_delete k zero = deleted_none s n
    onwards_delete k (suc m) =
        deleted_more s (alone (singleton (holds_fact (E + k)))) (singleton (E + (k + 1))) [] (map onwards (range (k + 1) m)) n
        ∙ ap₂ ◌||◌ (and-false (is_true s (alone (singleton (holds_fact (E + k)))))) (onwards_delete (k + 1) m)

    within_adds : added s (trackers_of (within t) last S B E φ ψ) n
        ≡ (eqb n (E + 1) || (any (λ (j : ℕ). s (E + j) && eqb n (E + (j + 1))) (range 1 t) || not (s (E + (t + 1))) && is_true s φ && eqb n S))
    within_adds =
        let reaches_adds : added s (singleton reaches) n ≡ (not (s (E + (t + 1))) && is_true s φ && eqb n S) = simp (adding, plain) in
        added_more s [] (singleton (E + 1)) [] (map onwards (range 1 t) ++ singleton reaches) n
        ∙ ap₂ ◌||◌ (or-false (eqb n (E + 1)))
        (added-append s (map onwards (range 1 t)) (singleton reaches) n ∙ ap₂ ◌||◌ (onwards_add 1 t) reaches_adds)

    pub within_deletes : deleted s (trackers_of (within t) last S B E φ ψ) n ≡ false
    within_deletes =
        let reaches_deletes : deleted s (singleton reaches) n ≡ false = simp (deleting, plain) in
        deleted_more s [] (singleton (E + 1)) [] (map onwards (range 1 t) ++ singleton reaches) n
        ∙ deleted_append s (map onwards (range 1 t)) (singleton reaches) n
        ∙ ap₂ ◌||◌ (onwards_delete 1 t) reaches_deletes

    no_onwards : ((i : ℕ) → 1 ≤ i → i ≤ t + 1 → n ≢ E + i) → any (λ (j : ℕ). s (E + j) && eqb n (E + (j + 1))) (range 1 t) ≡ false
    no_onwards out =
        none_of_lem (λ (j : ℕ). s (E + j) && eqb n (E + (j + 1))) 1 t
        (λ j lo hi. ap (λ (b : Bool). s (E + j) && b) (other_false (out (j + 1) (omega arith) (omega arith))) ∙ and-false (s (E + j)))

    pub within_adds_no : n ≢ S → ((i : ℕ) → 1 ≤ i → i ≤ t + 1 → n ≢ E + i) → added s (trackers_of (within t) last S B E φ ψ) n ≡ false
    within_adds_no not_s out =
        within_adds
        ∙ rw (other_false (out 1 (omega arith) (omega arith)), no_onwards out, other_false not_s) (and-false (not (s (E + (t + 1))) && is_true s φ))

    -- what is added is held, and so is what was held
    within_changed : changed s (trackers_of (within t) last S B E φ ψ) n ≡ (added s (trackers_of (within t) last S B E φ ψ) n || s n)
    unfolding changed
    within_changed = ap (λ (b : Bool). added s (trackers_of (within t) last S B E φ ψ) n || s n && not b) within_deletes
        ∙ ap (λ (b : Bool). added s (trackers_of (within t) last S B E φ ψ) n || b) (and-true (s n))

  module _ (n : ℕ) (ages : Ages s E (t + 1) n) where
    pub within_s : changed s (trackers_of (within t) last S B E φ ψ) S ≡ next_s (within t) last (s S) (s B) n (is_true s φ) (is_true s ψ)
    within_s =
        let first : eqb S (E + 1) ≡ false = ne_eqb S (E + 1) (omega arith) in
        let adds : added s (trackers_of (within t) last S B E φ ψ) S ≡ (leb n t && is_true s φ) =
        within_adds S
        ∙ rw (first, no_onwards S (λ i lo hi. omega arith), eq-eqb S S refl)
        (and-true (not (s (E + (t + 1))) && is_true s φ)
        ∙ ap (λ (b : Bool). b && is_true s φ) (ap not (ages (t + 1) (omega arith) (omega arith)) ∙ not_yet n t)) in
        within_changed S ∙ ap (λ (b : Bool). b || s S) adds

    pub within_d : (i : ℕ) → i < t + 1 → changed s (trackers_of (within t) last S B E φ ψ) (E + (i + 1)) ≡ leb (i + 1) (next_age (within t) (s S) n (is_true s φ) (is_true s ψ))
    within_d i h =
        within_changed (E + (i + 1))
        ∙ ap₂ ◌||◌ (within_adds (E + (i + 1)) ∙ ap (λ (b : Bool). eqb (E + (i + 1)) (E + 1) || (any (λ (j : ℕ). s (E + j) && eqb (E + (i + 1)) (E + (j + 1))) (range 1 t) || b)) no_s ∙ by_number i h)
        (ages (i + 1) (omega arith) (omega arith))
        ∙ older_is i n t (omega arith)
      where
        no_s : (not (s (E + (t + 1))) && is_true s φ && eqb (E + (i + 1)) S) ≡ false
        no_s = let other : E + (i + 1) ≢ S = omega arith in rw (other_false other) (and-false (not (s (E + (t + 1))) && is_true s φ))

        by_number : (i : ℕ) → i < t + 1
            → (eqb (E + (i + 1)) (E + 1) || (any (λ (j : ℕ). s (E + j) && eqb (E + (i + 1)) (E + (j + 1))) (range 1 t) || false)) ≡ leb i n
        by_number zero h = ap₂ ◌||◌ (eq-eqb (E + (0 + 1)) (E + 1) (omega arith)) refl ∙ sym (le-leb 0 n (omega arith))
        by_number (suc i) h =
            let other : E + (suc i + 1) ≢ E + 1 = omega arith in
            let one_of : any (λ (j : ℕ). s (E + j) && eqb (E + (suc i + 1)) (E + (j + 1))) (range 1 t) ≡ (s (E + suc i) && eqb (E + (suc i + 1)) (E + (suc i + 1))) =
            only_one (λ (j : ℕ). s (E + j) && eqb (E + (suc i + 1)) (E + (j + 1))) (suc i) 1 t (omega arith) (omega arith)
            (λ j lo hi o. ap (λ (b : Bool). s (E + j) && b) (ne_eqb (E + (suc i + 1)) (E + (j + 1)) (omega arith)) ∙ and-false (s (E + j))) in
            ap₂ ◌||◌ (other_false other)
            (or-false (any (λ (j : ℕ). s (E + j) && eqb (E + (suc i + 1)) (E + (j + 1))) (range 1 t)) ∙ one_of
            ∙ ap₂ ◌&&◌ (ages (suc i) (omega arith) (omega arith)) (eq-eqb (E + (suc i + 1)) (E + (suc i + 1)) refl)
            ∙ and-true (leb (suc i) n))

  -- always-within

  abbrev waits : ℕ → List Effect
  waits j = each_false (alone (singleton (holds_fact (E + j)))) ψ (singleton (fact_d t S E (j + 1)))

  abbrev resets : Effect
  resets = effect (alone (singleton (lacks_fact S)) ++ ψ) [] (B ∷ range (E + 1) t)

  -- some D that holds leads to n, where ψ is false
  abbrev waited : ℕ → ℕ → Bool
  waited n j = s (E + j) && not (is_true s ψ) && eqb n (fact_d t S E (j + 1))

  module _ (n : ℕ) where
    waits_add : (j : ℕ) → added s (waits j) n ≡ waited n j
    waits_add j =
        each_false_adds s (alone (singleton (holds_fact (E + j)))) (singleton (fact_d t S E (j + 1))) n ψ
        ∙ ap₂ (λ (x y : Bool). x && not (is_true s ψ) && y) (holds_alone s (E + j)) (or-false (eqb n (fact_d t S E (j + 1))))

    always_adds : added s (trackers_of (always_within t) last S B E φ ψ) n
        ≡ (is_true s φ && not (is_true s ψ) && (eqb n B || eqb n (fact_d t S E 1)) || any (waited n) (range 1 t))
    always_adds =
        let later : List Effect = concat_map waits (range 1 t) in
        let resets_adds : added s (singleton resets) n ≡ false = simp (adding, plain) in
        added-append s (each_false φ ψ (B ∷ fact_d t S E 1 ∷ [])) (later ++ singleton resets) n
        ∙ ap₂ ◌||◌
        (each_false_adds s φ (B ∷ fact_d t S E 1 ∷ []) n ψ
        ∙ ap (λ (b : Bool). is_true s φ && not (is_true s ψ) && (eqb n B || b)) (or-false (eqb n (fact_d t S E 1))))
        (added-append s later (singleton resets) n
        ∙ ap₂ ◌||◌ (grouped (λ (es : List Effect). added s es n) (added_none s n) (λ es fs. added-append s es fs n) waits (range 1 t) ∙ each (range 1 t)) resets_adds
        ∙ or-false (any (waited n) (range 1 t)))
      where
        each : (js : List ℕ) → any (λ (j : ℕ). added s (waits j) n) js ≡ any (waited n) js
        each [] = refl
        each (j ∷ js) = ap₂ ◌||◌ (waits_add j) (each js)

    always_deletes : deleted s (trackers_of (always_within t) last S B E φ ψ) n ≡ (not (s S) && is_true s ψ && (eqb n B || elem n (range (E + 1) t)))
    always_deletes =
        let later : List Effect = concat_map waits (range 1 t) in
        let resets_deletes : deleted s (singleton resets) n ≡ (not (s S) && is_true s ψ && (eqb n B || elem n (range (E + 1) t))) = simp (deleting, plain) in
        deleted_append s (each_false φ ψ (B ∷ fact_d t S E 1 ∷ [])) (later ++ singleton resets) n
        ∙ ap₂ ◌||◌ (each_false_deletes s φ (B ∷ fact_d t S E 1 ∷ []) n ψ)
        (deleted_append s later (singleton resets) n
        ∙ ap₂ ◌||◌ (grouped (λ (es : List Effect). deleted s es n) (deleted_none s n) (λ es fs. deleted_append s es fs n) waits (range 1 t)
        ∙ each (range 1 t)) resets_deletes)
      where
        each : (js : List ℕ) → any (λ (j : ℕ). deleted s (waits j) n) js ≡ false
        each [] = refl
        each (j ∷ js) = ap₂ ◌||◌ (each_false_deletes s (alone (singleton (holds_fact (E + j)))) (singleton (fact_d t S E (j + 1))) n ψ) (each js)

    -- where no D leads
    nothing_waited : ((i : ℕ) → 2 ≤ i → i ≤ t + 1 → n ≢ fact_d t S E i) → any (waited n) (range 1 t) ≡ false
    nothing_waited out =
        none_of_lem (waited n) 1 t
        (λ j lo hi. ap (λ (b : Bool). s (E + j) && not (is_true s ψ) && b) (other_false (out (j + 1) (omega arith) (omega arith)))
        ∙ and-false (s (E + j) && not (is_true s ψ)))

    -- where D of i leads alone
    waited_at : (i : ℕ) → 1 ≤ i → i ≤ t → n ≡ fact_d t S E (i + 1) → ((j : ℕ) → j ≢ i → j ≤ t → n ≢ fact_d t S E (j + 1))
        → any (waited n) (range 1 t) ≡ (s (E + i) && not (is_true s ψ))
    waited_at i lo hi here out =
        only_one (waited n) i 1 t lo (omega arith)
        (λ j l r o. ap (λ (b : Bool). s (E + j) && not (is_true s ψ) && b) (other_false (out j o (omega arith))) ∙ and-false (s (E + j) && not (is_true s ψ)))
        ∙ ap (λ (b : Bool). s (E + i) && not (is_true s ψ) && b) (eq-eqb n (fact_d t S E (i + 1)) here)
        ∙ and-true (s (E + i) && not (is_true s ψ))

  d_in : (j : ℕ) → j ≤ t → fact_d t S E j ≡ E + j
  d_in j h = ap (λ (b : Bool). cond b (E + j) S) (le-leb j t h)

  d_out : (j : ℕ) → t < j → fact_d t S E j ≡ S
  d_out j h = ap (λ (b : Bool). cond b (E + j) S) (lt-leb j t h)

  -- a fact is D of i where it is S or stands at its place
  not_d : (n j : ℕ) → n ≢ S → (j ≤ t → n ≢ E + j) → n ≢ fact_d t S E j
  not_d n j not_s out e = go (leb j t) refl
    where
      go : (b : Bool) → leb j t ≡ b → ⊥
      go true p = let h : j ≤ t = leb-true j t p in out h (e ∙ d_in j h)
      go false p = not_s (e ∙ d_out j (leb-false j t p))

  no_elem : (n k m : ℕ) → (n < k) → elem n (range k m) ≡ false
  no_elem n k m h = none_of_lem (eqb n) k m (λ j lo hi. ne_eqb n j (omega arith))

  has_elem : (n k m : ℕ) → k ≤ n → n < k + m → elem n (range k m) ≡ true
  has_elem n k m lo hi = only_one (eqb n) n k m lo hi (λ j l r o. other_false (λ p. o (sym p))) ∙ eq-eqb n n refl

  module _ (n : ℕ) (not_s : n ≢ S) (not_b : n ≢ B) (out : (i : ℕ) → 1 ≤ i → i ≤ t → n ≢ E + i) where
    pub always_adds_no : added s (trackers_of (always_within t) last S B E φ ψ) n ≡ false
    always_adds_no =
        always_adds n
        ∙ ap₂ (λ (x y : Bool). is_true s φ && not (is_true s ψ) && x || y)
        (ap₂ ◌||◌ (other_false not_b) (other_false (not_d n 1 not_s (λ h. out 1 (omega arith) h))))
        (nothing_waited n (λ i lo hi. not_d n i not_s (λ h. out i (omega arith) h)))
        ∙ or-false (is_true s φ && not (is_true s ψ) && false)
        ∙ and-false (is_true s φ && not (is_true s ψ))

    pub always_deletes_no : deleted s (trackers_of (always_within t) last S B E φ ψ) n ≡ false
    always_deletes_no =
        always_deletes n
        ∙ ap (λ (b : Bool). not (s S) && is_true s ψ && b)
        (ap₂ ◌||◌ (other_false not_b) (none_of_lem (eqb n) (E + 1) t (λ j lo hi. other_false (λ p. elsewhere j lo hi p))))
        ∙ and-false (not (s S) && is_true s ψ)
      where
        elsewhere : (j : ℕ) → E + 1 ≤ j → j < E + 1 + t → n ≡ j → ⊥
        elsewhere j lo hi p = out (j - E) (omega arith) (omega arith) (omega arith)

  module _ (apart : S ≢ B) where
    -- S is not deleted
    pub always_s : (n : ℕ) → Ages s E t n → changed s (trackers_of (always_within t) last S B E φ ψ) S ≡ next_s (always_within t) last (s S) (s B) n (is_true s φ) (is_true s ψ)
    unfolding changed
    always_s n ages =
        ap₂ (λ (x y : Bool). x || s S && not y) (always_adds S ∙ by_steps t refl)
        (always_deletes S
        ∙ ap₂ (λ (x y : Bool). not (s S) && is_true s ψ && (x || y)) (other_false apart) (no_elem S (E + 1) t (omega arith))
        ∙ and-false (not (s S) && is_true s ψ))
        ∙ ap (λ (b : Bool). cond (eqb t 0) (is_true s φ) (leb t n) && not (is_true s ψ) || b) (and-true (s S))
      where
        by_steps : (r : ℕ) → r ≡ t
            → (is_true s φ && not (is_true s ψ) && (eqb S B || eqb S (fact_d t S E 1)) || any (waited S) (range 1 t))
            ≡ (cond (eqb t 0) (is_true s φ) (leb t n) && not (is_true s ψ))
        by_steps zero e =
            ap₂ (λ (x y : Bool). is_true s φ && not (is_true s ψ) && (x || y) || any (waited S) (range 1 t)) (other_false apart)
            (eq-eqb S (fact_d t S E 1) (sym (d_out 1 (omega arith))))
            ∙ ap₂ (λ (x y : Bool). x || y) (and-true (is_true s φ && not (is_true s ψ))) (none_of_lem (waited S) 1 t (λ j lo hi. absurd (omega arith)))
            ∙ or-false (is_true s φ && not (is_true s ψ))
            ∙ ap (λ (b : Bool). cond b (is_true s φ) (leb t n) && not (is_true s ψ)) (sym (eq-eqb t 0 (sym e)))
        by_steps (suc r) e =
            let far : S ≢ fact_d t S E 1 = λ p. (let q : S ≡ E + 1 = p ∙ d_in 1 (omega arith) in omega arith) in
            let zero_no : t ≢ 0 = omega arith in
            ap₂ (λ (x y : Bool). is_true s φ && not (is_true s ψ) && (x || y) || any (waited S) (range 1 t)) (other_false apart) (other_false far)
            ∙ ap₂ (λ (x y : Bool). x || y) (and-false (is_true s φ && not (is_true s ψ)))
            (waited_at S t (omega arith) (omega arith) (sym (d_out (t + 1) (omega arith)))
            (λ j o h p. (let q : S ≡ E + (j + 1) = p ∙ d_in (j + 1) (omega arith) in omega arith)))
            ∙ ap (λ (b : Bool). b && not (is_true s ψ)) (ages t (omega arith) (omega arith))
            ∙ ap (λ (b : Bool). cond b (is_true s φ) (leb t n) && not (is_true s ψ)) (sym (other_false zero_no))

    pub always_b : (n : ℕ) → changed s (trackers_of (always_within t) last S B E φ ψ) B ≡ next_b (always_within t) last (s S) (s B) n (is_true s φ) (is_true s ψ)
    unfolding changed
    always_b n =
        ap₂ (λ (x y : Bool). x || s B && not y)
        (always_adds B
        ∙ ap₂ (λ (x y : Bool). is_true s φ && not (is_true s ψ) && (x || eqb B (fact_d t S E 1)) || y) (eq-eqb B B refl)
        (nothing_waited B (λ i lo hi. not_d B i (λ p. apart (sym p)) (λ h. omega arith)))
        ∙ or-false (is_true s φ && not (is_true s ψ) && true)
        ∙ and-true (is_true s φ && not (is_true s ψ)))
        (always_deletes B ∙ ap (λ (b : Bool). not (s S) && is_true s ψ && (b || elem B (range (E + 1) t))) (eq-eqb B B refl) ∙ and-true (not (s S) && is_true s ψ))

  pub always_d : (n : ℕ) → Ages s E t n → (i : ℕ) → i < t
      → changed s (trackers_of (always_within t) last S B E φ ψ) (E + (i + 1)) ≡ leb (i + 1) (next_age (always_within t) (s S) n (is_true s φ) (is_true s ψ))
  unfolding changed
  always_d n ages i h =
      ap₂ (λ (x y : Bool). x || s (E + (i + 1)) && not y)
      (always_adds (E + (i + 1)) ∙ by_number i h)
      (always_deletes (E + (i + 1))
      ∙ ap (λ (b : Bool). not (s S) && is_true s ψ && (eqb (E + (i + 1)) B || b)) (has_elem (E + (i + 1)) (E + 1) t (omega arith) (omega arith))
      ∙ ap (λ (b : Bool). not (s S) && is_true s ψ && b) (or-true (eqb (E + (i + 1)) B))
      ∙ and-true (not (s S) && is_true s ψ))
      ∙ ap (λ (b : Bool). cond (eqb i 0) (is_true s φ) (leb i n) && not (is_true s ψ) || b && not (not (s S) && is_true s ψ)) (ages (i + 1) (omega arith) (omega arith))
      ∙ as_aged i h (is_true s φ) (is_true s ψ) (s S)
    where
      by_number : (i : ℕ) → i < t
          → (is_true s φ && not (is_true s ψ) && (eqb (E + (i + 1)) B || eqb (E + (i + 1)) (fact_d t S E 1)) || any (waited (E + (i + 1))) (range 1 t))
          ≡ (cond (eqb i 0) (is_true s φ) (leb i n) && not (is_true s ψ))
      by_number zero h =
          ap₂ (λ (x y : Bool). is_true s φ && not (is_true s ψ) && x || y)
          (ap (λ (b : Bool). eqb (E + (0 + 1)) B || b) (eq-eqb (E + (0 + 1)) (fact_d t S E 1) (sym (d_in 1 (omega arith)))) ∙ or-true (eqb (E + (0 + 1)) B))
          (nothing_waited (E + (0 + 1)) (λ j lo hi. not_d (E + (0 + 1)) j (omega arith) (λ l. omega arith)))
          ∙ or-false (is_true s φ && not (is_true s ψ) && true)
          ∙ and-true (is_true s φ && not (is_true s ψ))
      by_number (suc i) h =
          let not_b : E + (suc i + 1) ≢ B = omega arith in
          let not_first : E + (suc i + 1) ≢ fact_d t S E 1 = not_d (E + (suc i + 1)) 1 (omega arith) (λ l. omega arith) in
          ap₂ (λ (x y : Bool). is_true s φ && not (is_true s ψ) && x || y) (ap₂ ◌||◌ (other_false not_b) (other_false not_first))
          (waited_at (E + (suc i + 1)) (suc i) (omega arith) (omega arith) (sym (d_in (suc i + 1) (omega arith)))
          (λ j o l. not_d (E + (suc i + 1)) (j + 1) (omega arith) (λ m p. o (omega arith))))
          ∙ ap₂ (λ (x y : Bool). x || y && not (is_true s ψ)) (and-false (is_true s φ && not (is_true s ψ))) (ages (suc i) (omega arith) (omega arith))
          ∙ ap (λ (b : Bool). cond b (is_true s φ) (leb (suc i) n) && not (is_true s ψ)) (sym (ne_eqb (suc i) 0 (omega arith)))

      as_aged : (i : ℕ) → i < t → (f g b : Bool)
          → (cond (eqb i 0) f (leb i n) && not g || leb (i + 1) n && not (not b && g)) ≡ leb (i + 1) (cond g (cond b n 0) (cond (f || leb 1 n) (older t n) 0))
      as_aged i h f true true = ap₂ (λ (x y : Bool). x || y) (and-false (cond (eqb i 0) f (leb i n))) (and-true (leb (i + 1) n))
      as_aged i h f true false =
          ap₂ (λ (x y : Bool). x || y) (and-false (cond (eqb i 0) f (leb i n))) (and-false (leb (i + 1) n)) ∙ sym (lt-leb (i + 1) 0 (omega arith))
      as_aged i h f false b =
          ap₂ (λ (x y : Bool). x || leb (i + 1) n && not y) (and-true (cond (eqb i 0) f (leb i n))) (and-false (not b))
          ∙ ap (λ (x : Bool). cond (eqb i 0) f (leb i n) || x) (and-true (leb (i + 1) n))
          ∙ aged i n t (omega arith) f (leb 1 n) refl
