-- The states of the translated task beside those of the source.
use mathlib.Core.Path.{◌≡◌, refl, sym, ◌∙◌, ap, ap₂}
use mathlib.Core.Logic.{◌≢◌}
use mathlib.Core.Bool.{Bool, true, false, not, ◌||◌, and-true, and-false, or-false}
use mathlib.Core.List.{List, [], ◌++◌}
use Prim.Native.Nat.{ℕ, suc, ◌+◌, ◌<◌, ◌≤◌}
use native.Mathlib.Omega.{arith}
use lib.Dec.{T, eqb, leb}
use borrow.Author.Tests.{eq-eqb, eqb-true, eqb-false, lt-leb}
use Rattle.lists.specs.Lists.{singleton}
use Rattle.meaning.specs.Task.{Condition, Effect, Action, Preference, Task, well_formed}
use Rattle.meaning.specs.Meaning.{State, opening, after, action_at, preference_at}
use Rattle.meaning.specs.Monitor.{Monitor, fresh, next_s, next_b, next_age}
use Rattle.classical.specs.Translation.{effect, fact_s, fact_b, fact_c, normal, ended, further_facts, before_d, all_trackers, closing, source_action, end_action}
use Rattle.classical.specs.Translation.{translated}
use Rattle.lists.proofs.Tests.{any_append, other_false}
use Rattle.meaning.proofs.WellFormed.{start_below, effects_below, first_below, second_below, preference_count, action_count}
use Rattle.meaning.proofs.Watched.{step_all}
use Rattle.meaning.proofs.Conditions.{Agree, same_truth}
use Rattle.meaning.proofs.Effects.{added, deleted, changed, after_is, changed_none, changed_left, changed_right, same_change, not_among, adds_none_out}
use Rattle.meaning.proofs.Effects.{deletes_none_out}
use Rattle.classical.proofs.Deadlines.{Ages}
use Rattle.classical.proofs.AllTrackers.{ApartFrom, trackers_add-none, trackers_delete_none, all_step_s, all_step_b, all_step_d}
use Rattle.classical.proofs.Actions.{source_action_lem, end_action_lem}

-- τ holds the facts of σ, the monitors m, and that the preferences below k are closed
pub record Simulates (t : Task) (m : Preference → Monitor) (running : Bool) (k : ℕ) (σ τ : State) : Type 0 where
  pub same : Agree t.facts τ σ
  pub s_is : (i : ℕ) → i < preference_count t → τ (fact_s t.facts i) ≡ (m (preference_at t i)).S
  pub b_is : (i : ℕ) → i < preference_count t → τ (fact_b t.facts i) ≡ (m (preference_at t i)).B
  pub d_is : (i : ℕ) → i < preference_count t → Ages τ (before_d t.facts t.preferences i) (further_facts (preference_at t i).kind) (m (preference_at t i)).age
  pub normal_is : τ (normal t.facts (preference_count t)) ≡ running
  pub ended_is : τ (ended t.facts (preference_count t)) ≡ not running
  pub few : k ≤ preference_count t
  pub closed_is : (i : ℕ) → i < k → τ (fact_c t.facts i) ≡ true
  pub open_is : (i : ℕ) → k ≤ i → i < preference_count t → τ (fact_c t.facts i) ≡ false

module _ (t : Task) (wf : T (well_formed t)) where
  abbrev F : ℕ
  F = t.facts

  abbrev P : ℕ
  P = preference_count t

  -- The opening states

  start_is : (n : ℕ) → opening (translated t) n ≡ (opening t n || eqb n (normal F P))
  unfolding translated
  start_is n =
      any_append (eqb n) t.start (singleton (normal F P)) ∙ ap (λ (b : Bool). opening t n || b) (or-false (eqb n (normal F P)))

  starts_other : (n : ℕ) → n ≢ normal F P → opening (translated t) n ≡ opening t n
  starts_other n h = start_is n ∙ ap (λ (b : Bool). opening t n || b) (other_false h) ∙ or-false (opening t n)

  starts_out : (n : ℕ) → F ≤ n → n ≢ normal F P → opening (translated t) n ≡ false
  starts_out n h other = starts_other n other ∙ not_among F n h t.start (start_below t wf)

  pub begins : Simulates t (λ p. fresh) true 0 (opening t) (opening (translated t))
  begins =
      record {
        same = λ n h. starts_other n (omega arith);
        s_is = λ i h. starts_out (fact_s F i) (omega arith) (omega arith);
        b_is = λ i h. starts_out (fact_b F i) (omega arith) (omega arith);
        d_is = λ i h j lo hi. starts_out (before_d F t.preferences i + j) (omega arith) (omega arith) ∙ sym (lt-leb j 0 (omega arith));
        normal_is =
            start_is (normal F P)
            ∙ ap₂ ◌||◌ (not_among F (normal F P) (omega arith) t.start (start_below t wf))
            (eq-eqb (normal F P) (normal F P) refl);
        ended_is = starts_out (ended F P) (omega arith) (omega arith);
        few = omega arith;
        closed_is = λ i h. absurd (omega arith);
        open_is = λ i lo h. starts_out (fact_c F i) (omega arith) (omega arith);
      }

  -- a fact up to ended that is not S or B of preference i
  low : {n : ℕ} (i : ℕ) → n ≤ ended F P → n ≢ fact_s F i → n ≢ fact_b F i → ApartFrom F t.preferences i n
  low i h s b = record { not_s = s; not_b = b; not_d = λ j lo hi. omega arith }

  -- One step, with the trackers of all preferences after other effects

  module _ (m : Preference → Monitor) (r : Bool) (k : ℕ) (σ τ : State) (M : Simulates t m r k σ τ) where
    abbrev tracked : Bool → List Effect → State
    tracked last es = changed τ (es ++ all_trackers last F t.preferences)

    steps_s : (last : Bool) (es : List Effect) (i : ℕ) → i < P → added τ es (fact_s F i) ≡ false → deleted τ es (fact_s F i) ≡ false
        → tracked last es (fact_s F i) ≡ (step_all last m σ (preference_at t i)).S
    steps_s last es i h p q =
        changed_right τ es (all_trackers last F t.preferences) (fact_s F i) p q
        ∙ all_step_s τ last F i t.preferences h (m (preference_at t i)).age (M.d_is i h)
        ∙ (λ z. next_s (preference_at t i).kind last (M.s_is i h z) (M.b_is i h z) (m (preference_at t i)).age
        (same_truth F τ σ M.same (preference_at t i).first (first_below t wf i h) z)
        (same_truth F τ σ M.same (preference_at t i).second (second_below t wf i h) z))

    steps_b : (last : Bool) (es : List Effect) (i : ℕ) → i < P → added τ es (fact_b F i) ≡ false → deleted τ es (fact_b F i) ≡ false
        → tracked last es (fact_b F i) ≡ (step_all last m σ (preference_at t i)).B
    steps_b last es i h p q =
        changed_right τ es (all_trackers last F t.preferences) (fact_b F i) p q
        ∙ all_step_b τ last F i t.preferences h (m (preference_at t i)).age
        ∙ (λ z. next_b (preference_at t i).kind last (M.s_is i h z) (M.b_is i h z) (m (preference_at t i)).age
        (same_truth F τ σ M.same (preference_at t i).first (first_below t wf i h) z)
        (same_truth F τ σ M.same (preference_at t i).second (second_below t wf i h) z))

    steps_d : (last : Bool) (es : List Effect) (i : ℕ) → i < P → ((n : ℕ) → ended F P < n → (added τ es n ≡ false) × (deleted τ es n ≡ false))
        → Ages (tracked last es) (before_d F t.preferences i) (further_facts (preference_at t i).kind) (step_all last m σ (preference_at t i)).age
    steps_d last es i h out j lo hi =
        let n : ℕ = before_d F t.preferences i + j in
        let (p, q) = out n (omega arith) in
        changed_right τ es (all_trackers last F t.preferences) n p q
        ∙ all_step_d τ last F i t.preferences h (m (preference_at t i)).age (M.d_is i h) j lo hi
        ∙ (λ z. leb j (next_age (preference_at t i).kind (M.s_is i h z) (m (preference_at t i)).age
        (same_truth F τ σ M.same (preference_at t i).first (first_below t wf i h) z)
        (same_truth F τ σ M.same (preference_at t i).second (second_below t wf i h) z)))

    -- a fact that no tracker touches
    untracked : (last : Bool) (es : List Effect) (n : ℕ) → ((j : ℕ) → j < P → ApartFrom F t.preferences j n) → tracked last es n ≡ changed τ es n
    untracked last es n apart =
        changed_left τ es (all_trackers last F t.preferences) n
        (trackers_add-none τ last F t.preferences n apart)
        (trackers_delete_none τ last F t.preferences n apart)

    kept : (last : Bool) (es : List Effect) (n : ℕ) → added τ es n ≡ false → deleted τ es n ≡ false
        → ((j : ℕ) → j < P → ApartFrom F t.preferences j n) → tracked last es n ≡ τ n
    kept last es n p q apart = untracked last es n apart ∙ changed_none τ es n p q

    -- A source step

    module _ (j : ℕ) (below : j < action_count t) where
      abbrev a : Action
      a = action_at t j

      no_add : (n : ℕ) → F ≤ n → added τ a.effects n ≡ false
      no_add n h = adds_none_out F n h τ a.effects (effects_below t wf j below)

      no_delete : (n : ℕ) → F ≤ n → deleted τ a.effects n ≡ false
      no_delete n h = deletes_none_out F n h τ a.effects (effects_below t wf j below)

      steps : (n : ℕ) → after τ (action_at (translated t) j) n ≡ tracked false a.effects n
      steps n = ap (λ (x : Action). after τ x n) (source_action_lem t j below) ∙ after_is τ (source_action F t.preferences a) n

      step_keeps : (n : ℕ) → F ≤ n → ((i : ℕ) → i < P → ApartFrom F t.preferences i n) → after τ (action_at (translated t) j) n ≡ τ n
      step_keeps n h apart = steps n ∙ kept false a.effects n (no_add n h) (no_delete n h) apart

      pub source_step : Simulates t (step_all false m σ) r k (after σ a) (after τ (action_at (translated t) j))
      source_step =
          record {
            same = λ n h.
                steps n
                ∙ untracked false a.effects n (λ i _. low i (omega arith) (omega arith) (omega arith))
                ∙ same_change F τ σ M.same n a.effects (effects_below t wf j below) h
                ∙ sym (after_is σ a n);
            s_is = λ i h.
                steps (fact_s F i)
                ∙ steps_s false a.effects i h (no_add (fact_s F i) (omega arith)) (no_delete (fact_s F i) (omega arith));
            b_is = λ i h.
                steps (fact_b F i)
                ∙ steps_b false a.effects i h (no_add (fact_b F i) (omega arith)) (no_delete (fact_b F i) (omega arith));
            d_is = λ i h j lo hi.
                steps (before_d F t.preferences i + j)
                ∙ steps_d false a.effects i h (λ n l. (no_add n (omega arith), no_delete n (omega arith))) j lo hi;
            normal_is = step_keeps (normal F P) (omega arith) (λ i h. low i (omega arith) (omega arith) (omega arith)) ∙ M.normal_is;
            ended_is = step_keeps (ended F P) (omega arith) (λ i h. low i (omega arith) (omega arith) (omega arith)) ∙ M.ended_is;
            few = M.few;
            closed_is = λ i h. step_keeps (fact_c F i) (omega arith) (λ l _. low l (omega (arith, M.few)) (omega arith) (omega arith)) ∙ M.closed_is i h;
            open_is = λ i lo h. step_keeps (fact_c F i) (omega arith) (λ l _. low l (omega arith) (omega arith) (omega arith)) ∙ M.open_is i lo h;
          }

    -- The end

    abbrev ending : Effect
    ending = effect [] (singleton (ended F P)) (singleton (normal F P))

    ends : (n : ℕ) → after τ (action_at (translated t) (action_count t)) n ≡ tracked true (singleton ending) n
    ends n = ap (λ (x : Action). after τ x n) (end_action_lem t) ∙ after_is τ (end_action F t.preferences) n

    ending_adds_no : (n : ℕ) → n ≢ ended F P → added τ (singleton ending) n ≡ false
    unfolding added
    ending_adds_no n h = rw (other_false h)

    ending_deletes_no : (n : ℕ) → n ≢ normal F P → deleted τ (singleton ending) n ≡ false
    unfolding deleted
    ending_deletes_no n h = rw (other_false h)

    ending_deletes : deleted τ (singleton ending) (normal F P) ≡ true
    unfolding deleted
    ending_deletes = rw (eq-eqb (normal F P) (normal F P) refl)

    ending_adds : added τ (singleton ending) (ended F P) ≡ true
    unfolding added
    ending_adds = rw (eq-eqb (ended F P) (ended F P) refl)

    normal_off : changed τ (singleton ending) (normal F P) ≡ false
    unfolding changed
    normal_off =
        let other : normal F P ≢ ended F P = omega arith in
        rw (ending_adds_no (normal F P) other, ending_deletes) (and-false (τ (normal F P)))

    ended_on : changed τ (singleton ending) (ended F P) ≡ true
    unfolding changed
    ended_on = rw ending_adds

    end_keeps : (n : ℕ) → n ≢ ended F P → n ≢ normal F P → ((i : ℕ) → i < P → ApartFrom F t.preferences i n)
        → after τ (action_at (translated t) (action_count t)) n ≡ τ n
    end_keeps n no_e no_n apart = ends n ∙ kept true (singleton ending) n (ending_adds_no n no_e) (ending_deletes_no n no_n) apart

    pub end_step : Simulates t (step_all true m σ) false k σ (after τ (action_at (translated t) (action_count t)))
    end_step =
        record {
          same = λ n h. end_keeps n (omega arith) (omega arith) (λ i _. low i (omega arith) (omega arith) (omega arith)) ∙ M.same n h;
          s_is = λ i h.
              ends (fact_s F i)
              ∙ steps_s true (singleton ending) i h (ending_adds_no (fact_s F i) (omega arith))
              (ending_deletes_no (fact_s F i) (omega arith));
          b_is = λ i h.
              ends (fact_b F i)
              ∙ steps_b true (singleton ending) i h (ending_adds_no (fact_b F i) (omega arith))
              (ending_deletes_no (fact_b F i) (omega arith));
          d_is = λ i h j lo hi.
              ends (before_d F t.preferences i + j)
              ∙ steps_d true (singleton ending) i h (λ n l. (ending_adds_no n (omega arith), ending_deletes_no n (omega arith))) j lo hi;
          normal_is =
              ends (normal F P) ∙ untracked true (singleton ending) (normal F P) (λ i h. low i (omega arith) (omega arith) (omega arith)) ∙ normal_off;
          ended_is = ends (ended F P) ∙ untracked true (singleton ending) (ended F P) (λ i h. low i (omega arith) (omega arith) (omega arith)) ∙ ended_on;
          few = M.few;
          closed_is = λ i h.
              end_keeps (fact_c F i) (omega (arith, M.few)) (omega arith) (λ l _. low l (omega (arith, M.few)) (omega arith) (omega arith)) ∙ M.closed_is i h;
          open_is = λ i lo h.
              end_keeps (fact_c F i) (omega arith) (omega arith) (λ l _. low l (omega arith) (omega arith) (omega arith)) ∙ M.open_is i lo h;
        }

    -- Preference k closed, by collect or by forgo

    module _ (amount : ℕ) (outcome : Condition) where
      close_keeps : (n : ℕ) → n ≢ fact_c F k → after τ (closing F P k amount outcome) n ≡ τ n
      close_keeps n h = rw (other_false h) (and-true (τ n))

      close_sets : after τ (closing F P k amount outcome) (fact_c F k) ≡ true
      close_sets = rw (eq-eqb (fact_c F k) (fact_c F k) refl)

      closed_below : (i : ℕ) (b : Bool) → eqb i k ≡ b → i < suc k → after τ (closing F P k amount outcome) (fact_c F i) ≡ true
      closed_below i true e h =
          ap (λ (n : ℕ). after τ (closing F P k amount outcome) (fact_c F n)) (eqb-true i k e) ∙ close_sets
      closed_below i false e h =
          let other : i ≢ k = eqb-false i k e in
          close_keeps (fact_c F i) (omega arith) ∙ M.closed_is i (omega arith)

      pub close_step : k < P → Simulates t m r (suc k) σ (after τ (closing F P k amount outcome))
      close_step below =
          record {
            same = λ n h. close_keeps n (omega arith) ∙ M.same n h;
            s_is = λ i h. close_keeps (fact_s F i) (omega arith) ∙ M.s_is i h;
            b_is = λ i h. close_keeps (fact_b F i) (omega arith) ∙ M.b_is i h;
            d_is = λ i h j lo hi. close_keeps (before_d F t.preferences i + j) (omega arith) ∙ M.d_is i h j lo hi;
            normal_is = close_keeps (normal F P) (omega arith) ∙ M.normal_is;
            ended_is = close_keeps (ended F P) (omega arith) ∙ M.ended_is;
            few = below;
            closed_is = λ i h. closed_below i (eqb i k) refl h;
            open_is = λ i lo h. close_keeps (fact_c F i) (omega arith) ∙ M.open_is i (omega arith) h;
          }
