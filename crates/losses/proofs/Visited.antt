-- The states left so far are the states that the source part visits, but for the last, which is left at the end.
use mathlib.Core.Path.{◌≡◌, refl, sym, ◌∙◌, ap, ap₂, fun_ext}
use mathlib.Core.Bool.{Bool, true, false, not, cond, ◌&&◌}
use mathlib.Core.List.{List, [], ◌∷◌, ◌++◌}
use Prim.Native.Nat.{ℕ, suc, ◌<◌, ◌≤◌}
use native.Mathlib.Omega.{arith}
use lib.Dec.{T, leb, ltb}
use borrow.Author.Tests.{le-leb, lt-ltb, le-ltb, ltb-true, ltb-false}
use Rattle.lists.specs.Lists.{singleton}
use Rattle.meaning.specs.Task.{Preference, Task, well_formed}
use Rattle.meaning.specs.Meaning.{State, after, action_at, applies, runs, reached, opening, final, visited}
use Rattle.meaning.specs.Monitor.{Monitor, fresh}
use Rattle.lists.proofs.Tests.{not_both, and_left, and_right}
use Rattle.meaning.proofs.WellFormed.{action_count, preference_count, start_below, effects_below}
use Rattle.meaning.proofs.Effects.{after_is, changed_none, not_among, adds_none_out, deletes_none_out}
use Rattle.meaning.proofs.Watched.{step_all}
use Rattle.classical.specs.Translation.{translated, ended}
use Rattle.classical.specs.Claim.{source_part}
use Rattle.classical.proofs.Applies.{is_accepting}
use Rattle.classical.proofs.Simulation.{Simulates, begins}
use Rattle.classical.proofs.Plans.{closer_above}
use Rattle.losses.specs.Losses.{source_state, left_from, left}
use Rattle.losses.proofs.Moves.{state_after, Move, by_source, by_end, by_closing, move, closer_after}

module _ (t : Task) (wf : T (well_formed t)) where
  abbrev c : Task
  c = translated t

  abbrev F : ℕ
  F = t.facts

  abbrev A : ℕ
  A = action_count t

  -- A source state holds facts below F only, so it is the source state of what mirrors it

  abbrev Within : State → Type 0
  Within σ = (n : ℕ) → F ≤ n → σ n ≡ false

  opening_within : Within (opening t)
  opening_within n h = not_among F n h t.start (start_below t wf)

  step_within : (σ : State) → Within σ → (j : ℕ) → j < A → Within (after σ (action_at t j))
  step_within σ w j below n h =
      after_is σ (action_at t j) n
      ∙ changed_none σ (action_at t j).effects n (adds_none_out F n h σ (action_at t j).effects (effects_below t wf j below))
      (deletes_none_out F n h σ (action_at t j).effects (effects_below t wf j below))
      ∙ w n h

  source_is : (m : Preference → Monitor) (r : Bool) (k : ℕ) (σ τ : State) → Simulates t m r k σ τ → Within σ → source_state t τ ≡ σ
  source_is m r k σ τ M w = fun_ext (λ n. go n (ltb n F) refl)
    where
      go : (n : ℕ) (b : Bool) → ltb n F ≡ b → (b && τ n) ≡ σ n
      go n true e = M.same n (ltb-true n F e)
      go n false e = sym (w n (ltb-false n F e))

  -- Behind the end no state is left

  record BehindEnd (τ : State) (xs : List ℕ) : Type 0 where
    pub no_source : source_part t xs ≡ []
    pub none_left : left_from t c τ xs ≡ []
    pub is_ended : state_after c τ xs (ended F (preference_count t)) ≡ true

  closes : (m : Preference → Monitor) (r : Bool) (k : ℕ) (σ τ : State) → Simulates t m r k σ τ → r ≡ false → (xs : List ℕ) → T (runs c τ xs)
      → BehindEnd τ xs
  closes m r k σ τ M e [] ok = record { no_source = refl; none_left = refl; is_ended = M.ended_is ∙ ap not e }
  closes m r k σ τ M e (j ∷ xs) ok =
      go (move t wf m r k σ τ M j (and_left (applies c τ j) (runs c τ' xs) ok))
      (λ k' M'. closes m r k' σ τ' M' e xs (and_right (applies c τ j) (runs c τ' xs) ok))
    where
      τ' : State
      τ' = after τ (action_at c j)

      go : Move t m r k σ τ j → ((k' : ℕ) → Simulates t m r k' σ τ' → BehindEnd τ' xs) → BehindEnd τ (j ∷ xs)
      go (by_source a on M') ih = absurd (not_both on e)
      go (by_end a on M') ih = absurd (not_both on e)
      go (by_closing a off b M') ih =
          let C : BehindEnd τ' xs = ih (suc k) M' in
          record {
            no_source =
                ap (λ (b : Bool). cond b (j ∷ source_part t xs) (source_part t xs))
                (ap (λ (n : ℕ). ltb n A) a ∙ closer_above t (is_accepting t m k) k)
                ∙ C.no_source;
            none_left =
                ap (λ (b : Bool). cond b (source_state t τ ∷ left_from t c τ' xs) (left_from t c τ' xs))
                (ap (λ (n : ℕ). leb n A) a ∙ closer_after t (is_accepting t m k) k)
                ∙ C.none_left;
            is_ended = C.is_ended;
          }

  -- the last state of the source part, while it isn't left
  abbrev unleft : State → State → List ℕ → List State
  unleft σ τ xs = cond (state_after c τ xs (ended F (preference_count t))) [] (singleton (state_after t σ (source_part t xs)))

  visits : (m : Preference → Monitor) (r : Bool) (k : ℕ) (σ τ : State) → Simulates t m r k σ τ → r ≡ true → Within σ
      → (xs : List ℕ) → T (runs c τ xs) → σ ∷ reached t σ (source_part t xs) ≡ left_from t c τ xs ++ unleft σ τ xs
  visits m r k σ τ M e w [] ok = sym (ap (λ (b : Bool). cond b [] (singleton σ)) (M.ended_is ∙ ap not e))
  visits m r k σ τ M e w (j ∷ xs) ok =
      go (move t wf m r k σ τ M j (and_left (applies c τ j) (runs c τ' xs) ok))
      (λ m' σ' M' w'. visits m' r k σ' τ' M' e w' xs (and_right (applies c τ j) (runs c τ' xs) ok))
    where
      τ' : State
      τ' = after τ (action_at c j)

      go : Move t m r k σ τ j
          → ((m' : Preference → Monitor) (σ' : State) → Simulates t m' r k σ' τ' → Within σ'
          → σ' ∷ reached t σ' (source_part t xs) ≡ left_from t c τ' xs ++ unleft σ' τ' xs)
          → σ ∷ reached t σ (source_part t (j ∷ xs)) ≡ left_from t c τ (j ∷ xs) ++ unleft σ τ (j ∷ xs)
      go (by_source a on M') ih =
          rw (lt-ltb j A a, le-leb j A (omega arith))
          (ap₂ ◌∷◌ (sym (source_is m r k σ τ M w)) (ih (step_all false m σ) (after σ (action_at t j)) M' (step_within σ w j a)))
      go (by_end a on M') ih =
          let C : BehindEnd τ' xs = closes (step_all true m σ) false k σ τ' M' refl xs (and_right (applies c τ j) (runs c τ' xs) ok) in
          rw (le-ltb j A (omega arith), le-leb j A (omega arith), C.no_source, C.none_left, C.is_ended) (ap singleton (sym (source_is m r k σ τ M w)))
      go (by_closing a off b M') ih = absurd (not_both e off)

  pub left_visited : (xs : List ℕ) → T (runs c (opening c) xs)
      → visited t (source_part t xs)
      ≡ left t c xs ++ cond (final c xs (ended F (preference_count t))) [] (singleton (final t (source_part t xs)))
  left_visited xs ok = visits (λ q. fresh) true 0 (opening t) (opening c) (begins t wf) refl opening_within xs ok
