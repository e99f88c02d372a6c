-- One step of a translated run, and what is lost in a state by its monitors.
use mathlib.Core.Path.{◌≡◌, refl, sym, subst}
use mathlib.Core.Logic.{◌⊎◌, inl, inr}
use mathlib.Core.Bool.{Bool, true, false}
use mathlib.Core.List.{List}
use Prim.Native.Nat.{ℕ, suc, ◌<◌}
use native.Mathlib.Omega.{arith}
use lib.Dec.{T, leb}
use borrow.Author.Tests.{lt-leb}
use Rattle.lists.specs.Lists.{last_or}
use Rattle.meaning.specs.Task.{Preference, Task, well_formed}
use Rattle.meaning.specs.Meaning.{State, after, action_at, applies, preference_at, reached}
use Rattle.meaning.specs.Monitor.{Monitor}
use Rattle.meaning.proofs.WellFormed.{action_count, preference_count}
use Rattle.meaning.proofs.Watched.{step_all}
use Rattle.classical.specs.Translation.{translated}
use Rattle.classical.proofs.Actions.{collect_at, forgo_at}
use Rattle.classical.proofs.Simulation.{Simulates, source_step, end_step}
use Rattle.classical.proofs.Applies.{is_accepting, closer, running_only, closing_only, closer_step}
use Rattle.losses.specs.Losses.{shows, broken}
use Rattle.losses.proofs.Shown.{shown_by}

-- the state after xs, from s on
abbrev pub state_after : Task → State → List ℕ → State
state_after c s xs = last_or s (reached c s xs)

-- what the monitors m show of rule i
abbrev pub shown : Task → (Preference → Monitor) → ℕ → Bool
shown t m i = shown_by (preference_at t i).kind (m (preference_at t i))

-- closing actions stand after the end
pub closer_after : (t : Task) (b : Bool) (k : ℕ) → leb (closer t b k) (action_count t) ≡ false
closer_after t true k = lt-leb (collect_at t k) (action_count t) (omega arith)
closer_after t false k = lt-leb (forgo_at t k) (action_count t) (omega arith)

-- the ways to make step j from τ, and what is simulated then
pub data Move (t : Task) (m : Preference → Monitor) (r : Bool) (k : ℕ) (σ τ : State) (j : ℕ) : Type 0 where
  by_source : j < action_count t → r ≡ true
      → Simulates t (step_all false m σ) r k (after σ (action_at t j)) (after τ (action_at (translated t) j)) → Move t m r k σ τ j
  by_end : j ≡ action_count t → r ≡ true
      → Simulates t (step_all true m σ) false k σ (after τ (action_at (translated t) j)) → Move t m r k σ τ j
  by_closing : j ≡ closer t (is_accepting t m k) k → r ≡ false → k < preference_count t
      → Simulates t m r (suc k) σ (after τ (action_at (translated t) j)) → Move t m r k σ τ j

-- τ simulates some source state
abbrev pub Simulated : Task → State → Type 0
Simulated t τ = (m : Preference → Monitor) × (r : Bool) × (k : ℕ) × (σ : State) × Simulates t m r k σ τ

pub moved : (t : Task) (m : Preference → Monitor) (r : Bool) (k : ℕ) (σ τ : State) (j : ℕ) → Move t m r k σ τ j
    → Simulated t (after τ (action_at (translated t) j))
moved t m r k σ τ j (by_source a e M) = (step_all false m σ, r, k, after σ (action_at t j), M)
moved t m r k σ τ j (by_end a e M) = (step_all true m σ, false, k, σ, M)
moved t m r k σ τ j (by_closing a e b M) = (m, r, suc k, σ, M)

module _ (t : Task) (wf : T (well_formed t)) (m : Preference → Monitor) (r : Bool) (k : ℕ) (σ τ : State) (M : Simulates t m r k σ τ) where
  running : r ≡ true → (j : ℕ) → (j < action_count t) ⊎ (j ≡ action_count t) → Move t m r k σ τ j
  running e j (inl below) = by_source below e (source_step t wf m r k σ τ M j below)
  running e j (inr p) =
      by_end p e
      (subst (λ (i : ℕ). Simulates t (step_all true m σ) false k σ (after τ (action_at (translated t) i))) (sym p) (end_step t wf m r k σ τ M))

  pub move : (j : ℕ) → T (applies (translated t) τ j) → Move t m r k σ τ j
  move j h = go r refl
    where
      go : (b : Bool) → r ≡ b → Move t m r k σ τ j
      go true e = running e j (running_only t wf m r k σ τ M e j h)
      go false e =
          let c : (k < preference_count t) × (j ≡ closer t (is_accepting t m k) k) = closing_only t wf m r k σ τ M e j h in
          by_closing c.1 e c.0
          (subst (λ (i : ℕ). Simulates t m r (suc k) σ (after τ (action_at (translated t) i))) (sym c.1) (closer_step t wf m r k σ τ M c.0))

  -- the trackers show what the monitors do
  pub broken_is : (i : ℕ) → i < preference_count t → broken t τ i ≡ shown t m i
  broken_is i h = λ z. shows (preference_at t i).kind (M.s_is i h z) (M.b_is i h z)
