-- A list followed on the source comes to what is answered for the translated task.
use mathlib.Core.Path.{◌≡◌, refl, sym, ◌∙◌, ap, ap₂, subst⁻¹}
use mathlib.Core.Logic.{◌≢◌, ◌⊎◌, inl, inr}
use mathlib.Core.Bool.{Bool, true, false, not, cond, ◌&&◌, ◌||◌, and-true, or-true, or-false}
use mathlib.Core.List.{List, [], ◌∷◌, map}
use Prim.Native.Nat.{ℕ, zero, suc, ◌+◌, ◌*◌, ◌<◌, ◌≤◌}
use native.Mathlib.Nat.{add-zero, zero-add}
use native.Mathlib.Omega.{arith}
use lib.Dec.{T, eqb, ltb}
use borrow.Author.Tests.{lt-ltb, le-ltb, ltb-true, ltb-false, eq-eqb, ne_eqb, eqb-true, eqb-false}
use Rattle.lists.specs.Lists.{range, sum}
use Rattle.meaning.specs.Task.{Action, Task, well_formed}
use Rattle.meaning.specs.Meaning.{State, is_true, opening, after, action_at, applies, runs, cost, preference_at}
use Rattle.meaning.specs.Verdict.{steps_applied}
use Rattle.lists.proofs.Tests.{as_t}
use Rattle.meaning.proofs.WellFormed.{action_count, preference_count}
use Rattle.classical.specs.Translation.{translated}
use Rattle.classical.proofs.Actions.{source_action_lem, end_action_lem}
use Rattle.classical.proofs.Simulation.{Simulates, begins}
use Rattle.classical.proofs.Applies.{closer, source_applies, end_applies, running_only, closing_only, closer_applies}
use Rattle.classical.proofs.Plans.{closer_cost}
use Rattle.losses.specs.Losses.{Lost, lost, stopped, lost_in, lost_of, lost_after}
use Rattle.losses.specs.Following.{Position, first, is_met, closing, goes, led_by_source, led_by_end, led_by_closing, led, is_lost, lost_here, followed}
use Rattle.losses.proofs.Moves.{state_after, Move, by_source, by_end, by_closing, move}
use Rattle.losses.proofs.Bound.{lost_is}

-- τ of the translated task stands for p
abbrev pub StandsFor : Task → State → Position → Type 0
StandsFor t τ p = Simulates t p.monitors p.running p.closed p.facts τ

closing_is : (t : Task) (b : Bool) (k : ℕ) → closer t b k ≡ action_count t + cond b 1 2 + 2 * k
closing_is t true k = refl
closing_is t false k = refl

module _ (t : Task) (wf : T (well_formed t)) (p : Position) (τ : State) (M : StandsFor t τ p) where
  abbrev c : Task
  c = translated t

  abbrev A : ℕ
  A = action_count t

  abbrev P : ℕ
  P = preference_count t

  abbrev k : ℕ
  k = p.closed

  abbrev ok : Bool
  ok = is_met t p k

  closer_is : closer t ok k ≡ closing t p k
  closer_is = closing_is t ok k

  -- What applies

  source_goes : p.running ≡ true → (j : ℕ) → j < A → (applies t p.facts j || eqb j A) ≡ applies c τ j
  source_goes e j h =
      ap (λ (b : Bool). applies t p.facts j || b) (ne_eqb j A (λ q. omega arith))
      ∙ or-false (applies t p.facts j)
      ∙ sym (and-true (applies t p.facts j))
      ∙ ap (λ (b : Bool). applies t p.facts j && b) (sym e)
      ∙ sym (source_applies t wf p.monitors p.running k p.facts τ M j h)

  end_goes : p.running ≡ true → (j : ℕ) → j ≡ A → (applies t p.facts j || eqb j A) ≡ applies c τ j
  end_goes e j h =
      ap (λ (b : Bool). applies t p.facts j || b) (eq-eqb j A h)
      ∙ or-true (applies t p.facts j)
      ∙ sym e
      ∙ sym (ap (applies c τ) h ∙ end_applies t wf p.monitors p.running k p.facts τ M)

  no_more : p.running ≡ true → (j : ℕ) → A < j → (x : Bool) → applies c τ j ≡ x → applies c τ j ≡ false
  no_more e j h false q = q
  no_more e j h true q = absurd (go (running_only t wf p.monitors p.running k p.facts τ M e j (as_t q)))
    where
      go : (j < A) ⊎ (j ≡ A) → ⊥
      go (inl l) = omega arith
      go (inr l) = omega arith

  other_goes : p.running ≡ true → (j : ℕ) → A < j → (applies t p.facts j || eqb j A) ≡ applies c τ j
  other_goes e j h =
      let none : applies t p.facts j ≡ false = ap (λ (b : Bool). b && is_true p.facts (action_at t j).precondition) (le-ltb j A (omega arith)) in
      (λ z. none z || ne_eqb j A (λ q. omega arith) z) ∙ sym (no_more e j h (applies c τ j) refl)

  while_running : p.running ≡ true → (j : ℕ) → (applies t p.facts j || eqb j A) ≡ applies c τ j
  while_running e j = go (ltb j A) refl (eqb j A) refl
    where
      go : (x : Bool) → ltb j A ≡ x → (y : Bool) → eqb j A ≡ y → (applies t p.facts j || eqb j A) ≡ applies c τ j
      go true h y q = source_goes e j (ltb-true j A h)
      go false h true q = end_goes e j (eqb-true j A q)
      go false h false q =
          let l : A ≤ j = ltb-false j A h in
          let n : j ≢ A = eqb-false j A q in
          other_goes e j (omega arith)

  -- only the closing of rule k
  not-closing : p.running ≡ false → (j : ℕ) → ((k < P) × (j ≡ closing t p k) → ⊥) → (x : Bool) → applies c τ j ≡ x → applies c τ j ≡ false
  not-closing e j other false q = q
  not-closing e j other true q =
      let one : (k < P) × (j ≡ closer t ok k) = closing_only t wf p.monitors p.running k p.facts τ M e j (as_t q) in
      absurd (other (one.0, one.1 ∙ closer_is))

  abbrev closes : ℕ → Bool
  closes j = ltb k P && eqb j (closing t p k) && (not (preference_at t k).hard || ok)

  once_ended : p.running ≡ false → (j : ℕ) → closes j ≡ applies c τ j
  once_ended e j = go (ltb k P) refl (eqb j (closing t p k)) refl
    where
      go : (x : Bool) → ltb k P ≡ x → (y : Bool) → eqb j (closing t p k) ≡ y → (x && y && (not (preference_at t k).hard || ok)) ≡ applies c τ j
      go true h true q =
          sym
          (ap (applies c τ) (eqb-true j (closing t p k) q ∙ sym closer_is)
          ∙ closer_applies t wf p.monitors p.running k p.facts τ M e (ltb-true k P h))
      go true h false q = sym (not-closing e j (λ o. eqb-false j (closing t p k) q o.1) (applies c τ j) refl)
      go false h y q = sym (not-closing e j (λ o. let l : P ≤ k = ltb-false k P h in omega (arith, o.0)) (applies c τ j) refl)

  pub goes_is : (j : ℕ) → goes t p j ≡ applies c τ j
  goes_is j = go p.running refl
    where
      go : (r : Bool) → p.running ≡ r → cond r (applies t p.facts j || eqb j A) (closes j) ≡ applies c τ j
      go true e = while_running e j
      go false e = once_ended e j

  -- Where it leads

  abbrev next : ℕ → State
  next j = after τ (action_at c j)

  -- what q stands for, at its cost
  abbrev Led : ℕ → Position → Type 0
  Led j q = StandsFor t (next j) q × (q.cost ≡ p.cost + (action_at c j).cost)

  led_by : (j : ℕ) → Move t p.monitors p.running k p.facts τ j → Led j (led t p j)
  led_by j (by_source h e N) =
      subst⁻¹ (Led j) (λ z. cond (e z) (cond (lt-ltb j A h z) (led_by_source t p j) (led_by_end t p)) (led_by_closing t p))
      (N, ap (λ (a : Action). p.cost + a.cost) (sym (source_action_lem t j h)))
  led_by j (by_end h e N) =
      let free : (action_at c j).cost ≡ 0 = ap (λ (i : ℕ). (action_at c i).cost) h ∙ ap (λ (a : Action). a.cost) (end_action_lem t) in
      subst⁻¹ (Led j) (λ z. cond (e z) (cond (le-ltb j A (omega arith) z) (led_by_source t p j) (led_by_end t p)) (led_by_closing t p))
      (N, omega arith)
  led_by j (by_closing h e l N) =
      subst⁻¹ (Led j) (λ z. cond (e z) (cond (ltb j A) (led_by_source t p j) (led_by_end t p)) (led_by_closing t p))
      (N, ap (λ (n : ℕ). p.cost + n) (sym (ap (λ (i : ℕ). (action_at c i).cost) h ∙ closer_cost t ok k l)))

  pub led_is : (j : ℕ) → applies c τ j ≡ true → Led j (led t p j)
  led_is j h = led_by j (move t wf p.monitors p.running k p.facts τ M j (as_t h))

  -- What is lost

  same_sums : (g h : ℕ → ℕ) (i n : ℕ) → i + n ≡ P → ((l : ℕ) → l < P → g l ≡ h l) → sum (map g (range i n)) ≡ sum (map h (range i n))
  same_sums g h i zero e f = refl
  same_sums g h i (suc n) e f = ap₂ ◌+◌ (f i (omega arith)) (same_sums g h (i + 1) n (omega arith) f)

  pub lost_here_lem : lost_here t p ≡ lost_in t τ
  lost_here_lem =
      same_sums (λ i. cond (is_lost t p i) (preference_at t i).weight 0) (lost_of t τ) 0 P (omega arith)
      (λ i h. ap (λ (b : Bool). cond b (preference_at t i).weight 0) (sym (lost_is t wf p.monitors p.running k p.facts τ M i h)))

-- A whole list

-- the answer in τ, where the steps so far cost a and are i
abbrev answered : Task → State → List ℕ → ℕ → ℕ → Lost
answered t τ js a i =
    let c : Task = translated t in
    cond (runs c τ js) (lost (a + cost c js) (lost_in t (state_after c τ js))) (stopped (i + steps_applied c τ js))

module _ (t : Task) (wf : T (well_formed t)) where
  follows : (p : Position) (τ : State) → StandsFor t τ p → (i : ℕ) (js : List ℕ) → followed t p i js ≡ answered t τ js p.cost i
  follows p τ M i [] = λ z. lost (sym (add-zero p.cost) z) (lost_here_lem t wf p τ M z)
  follows p τ M i (j ∷ js) =
      ap (λ (b : Bool). cond b (followed t (led t p j) (suc i) js) (stopped i)) (goes_is t wf p τ M j)
      ∙ go (applies c τ j) refl (λ h. follows (led t p j) τ' (led_is t wf p τ M j h).0 (suc i) js)
    where
      c : Task
      c = translated t

      τ' : State
      τ' = after τ (action_at c j)

      go : (x : Bool) → applies c τ j ≡ x → (applies c τ j ≡ true → followed t (led t p j) (suc i) js ≡ answered t τ' js (led t p j).cost (suc i))
          → cond (applies c τ j) (followed t (led t p j) (suc i) js) (stopped i) ≡ answered t τ (j ∷ js) p.cost i
      go true h ih =
          let paid : (led t p j).cost ≡ p.cost + (action_at c j).cost = (led_is t wf p τ M j h).1 in
          let costs : (led t p j).cost + cost c js ≡ p.cost + ((action_at c j).cost + cost c js) = omega arith in
          let steps : suc i + steps_applied c τ' js ≡ i + suc (steps_applied c τ' js) = omega arith in
          rw h (ih h ∙ (λ z. cond (runs c τ' js) (lost (costs z) (lost_in t (state_after c τ' js))) (stopped (steps z))))
      go false h ih = rw h (ap stopped (sym (add-zero i)))

-- from the opening on
pub followed_is : (t : Task) → T (well_formed t) → (js : List ℕ) → followed t (first t) 0 js ≡ lost_after t js
unfolding lost_after
followed_is t wf js =
    let c : Task = translated t in
    follows t wf (first t) (opening c) (begins t wf) 0 js
    ∙ (λ z. cond (runs c (opening c) js) (lost (zero-add (cost c js) z) (lost_in t (state_after c (opening c) js)))
    (stopped (zero-add (steps_applied c (opening c) js) z)))
