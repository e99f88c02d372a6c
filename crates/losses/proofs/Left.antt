-- A rule is shown broken exactly when the states left so far miss it.
use mathlib.Core.Path.{◌≡◌, sym, ◌∙◌, ap}
use mathlib.Core.Bool.{Bool, true, false, not, cond, ◌&&◌}
use mathlib.Core.List.{List, [], ◌∷◌, map}
use Prim.Native.Nat.{ℕ, suc, ◌<◌}
use native.Mathlib.Omega.{arith}
use lib.Dec.{T, leb}
use borrow.Author.Tests.{le-leb, lt-ltb}
use Rattle.meaning.specs.Task.{Preference, Task, well_formed}
use Rattle.meaning.specs.Meaning.{State, after, action_at, applies, runs, opening, final, preference_at, met, seen, Observation}
use Rattle.meaning.specs.Monitor.{Monitor, fresh, step}
use Rattle.lists.proofs.Tests.{and_left, and_right}
use Rattle.meaning.proofs.WellFormed.{action_count, preference_count, first_below, second_below}
use Rattle.meaning.proofs.Conditions.{Agree, same_truth}
use Rattle.meaning.proofs.Watched.{step_all}
use Rattle.classical.specs.Translation.{translated}
use Rattle.classical.proofs.Applies.{is_accepting}
use Rattle.classical.proofs.Simulation.{Simulates, begins}
use Rattle.losses.specs.Losses.{losable, broken, source_state, left_from, left}
use Rattle.losses.proofs.Shown.{shown_by, last_same, through, shown_missed}
use Rattle.losses.proofs.Moves.{state_after, Move, by_source, by_end, by_closing, move, broken_is, closer_after}

module _ (t : Task) (wf : T (well_formed t)) (i : ℕ) (h : i < preference_count t) (l : T (losable (preference_at t i).kind)) where
  abbrev c : Task
  c = translated t

  abbrev q : Preference
  q = preference_at t i

  source_agrees : (σ τ : State) → Agree t.facts τ σ → Agree t.facts (source_state t τ) σ
  source_agrees σ τ a n b = ap (λ (x : Bool). x && τ n) (lt-ltb n t.facts b) ∙ a n b

  seen_same : (m : Preference → Monitor) (r : Bool) (k : ℕ) (σ τ : State) → Simulates t m r k σ τ → seen q (source_state t τ) ≡ seen q σ
  seen_same m r k σ τ M =
      let a : Agree t.facts (source_state t τ) σ = source_agrees σ τ M.same in
      λ z. record {
        φ = same_truth t.facts (source_state t τ) σ a q.first (first_below t wf i h) z;
        ψ = same_truth t.facts (source_state t τ) σ a q.second (second_below t wf i h) z;
      }

  -- what the monitor of q shows, from x on, once the states of l are seen
  abbrev shown_after : Monitor → List State → Bool
  shown_after x l = shown_by q.kind (through q.kind x (map (seen q) l))

  shown_left : (m : Preference → Monitor) (r : Bool) (k : ℕ) (σ τ : State) → Simulates t m r k σ τ → (xs : List ℕ) → T (runs c τ xs)
      → broken t (state_after c τ xs) i ≡ shown_after (m q) (left_from t c τ xs)
  shown_left m r k σ τ M [] ok = broken_is t wf m r k σ τ M i h
  shown_left m r k σ τ M (j ∷ xs) ok =
      go (move t wf m r k σ τ M j (and_left (applies c τ j) (runs c τ' xs) ok))
      (λ m' r' k' σ' M'. shown_left m' r' k' σ' τ' M' xs (and_right (applies c τ j) (runs c τ' xs) ok))
    where
      τ' : State
      τ' = after τ (action_at c j)

      later : List State
      later = left_from t c τ' xs

      -- where the step leaves τ, the monitor sees σ
      leaves : leb j (action_count t) ≡ true → shown_after (step q.kind false (m q) (seen q σ)) later ≡ shown_after (m q) (left_from t c τ (j ∷ xs))
      leaves e =
          ap (λ (x : Observation). shown_after (step q.kind false (m q) x) later) (sym (seen_same m r k σ τ M))
          ∙ ap (λ (b : Bool). shown_after (m q) (cond b (source_state t τ ∷ later) later)) (sym e)

      go : Move t m r k σ τ j
          → ((m' : Preference → Monitor) (r' : Bool) (k' : ℕ) (σ' : State) → Simulates t m' r' k' σ' τ' → broken t (state_after c τ' xs) i ≡ shown_after (m' q) later)
          → broken t (state_after c τ (j ∷ xs)) i ≡ shown_after (m q) (left_from t c τ (j ∷ xs))
      go (by_source a on M') ih = ih (step_all false m σ) r k (after σ (action_at t j)) M' ∙ leaves (le-leb j (action_count t) (omega arith))
      go (by_end a on M') ih =
          ih (step_all true m σ) false k σ M'
          ∙ ap (λ (x : Monitor). shown_after x later) (last_same q.kind l (m q) (seen q σ))
          ∙ leaves (le-leb j (action_count t) (omega arith))
      go (by_closing a off b M') ih =
          ih m r (suc k) σ M'
          ∙ ap (λ (b : Bool). shown_after (m q) (cond b (source_state t τ ∷ later) later))
          (sym (ap (λ (n : ℕ). leb n (action_count t)) a ∙ closer_after t (is_accepting t m k) k))

  pub exactly : (xs : List ℕ) → T (runs c (opening c) xs) → broken t (final c xs) i ≡ not (met q.kind (map (seen q) (left t c xs)))
  exactly xs ok =
      shown_left (λ p. fresh) true 0 (opening t) (opening c) (begins t wf) xs ok
      ∙ shown_missed q.kind l (map (seen q) (left t c xs))
