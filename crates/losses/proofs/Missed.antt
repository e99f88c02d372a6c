-- A rule that is shown broken is missed in every continuation.
use mathlib.Core.Path.{◌≡◌, refl, ◌∙◌, ap, subst}
use mathlib.Core.Bool.{Bool, true, false, not, cond, ◌&&◌}
use mathlib.Core.List.{List, [], ◌∷◌, ◌++◌, map, map-append}
use Prim.Native.Nat.{ℕ, ◌<◌}
use lib.Dec.{T, leb}
use lib.ListN.{length}
use Rattle.lists.specs.Lists.{singleton}
use Rattle.meaning.specs.Task.{Preference, Task, well_formed}
use Rattle.meaning.specs.Meaning.{State, after, action_at, applies, runs, opening, final, preference_at, Observation, seen, met, is_met}
use Rattle.lists.proofs.Tests.{as_t, as_false, and_left, and_right, and_both}
use Rattle.meaning.proofs.WellFormed.{preference_count}
use Rattle.classical.specs.Translation.{fact_s, fact_b, fact_c, ended, translated}
use Rattle.classical.specs.Claim.{source_part}
use Rattle.losses.specs.Losses.{losable, broken, is_lost, source_state, left_from, left}
use Rattle.losses.proofs.Shown.{shows-losable}
use Rattle.losses.proofs.Stays.{missed_on}
use Rattle.losses.proofs.Moves.{state_after}
use Rattle.losses.proofs.Left.{exactly}
use Rattle.losses.proofs.Visited.{left_visited}

runs_front : (c : Task) (τ : State) (xs ys : List ℕ) → T (runs c τ (xs ++ ys)) → T (runs c τ xs)
runs_front c τ [] ys ok = tt
runs_front c τ (j ∷ xs) ys ok =
    and_both (applies c τ j) (runs c (after τ (action_at c j)) xs) (and_left (applies c τ j) _ ok)
    (runs_front c (after τ (action_at c j)) xs ys (and_right (applies c τ j) _ ok))

left_append : (s c : Task) (τ : State) (xs ys : List ℕ) → left_from s c τ (xs ++ ys) ≡ left_from s c τ xs ++ left_from s c (state_after c τ xs) ys
left_append s c τ [] ys = refl
left_append s c τ (j ∷ xs) ys =
    go (leb j (length s.actions)) (left_from s c τ' xs) (left_from s c (state_after c τ' xs) ys) (left_append s c τ' xs ys)
  where
    τ' : State
    τ' = after τ (action_at c j)

    go : {l : List State} (b : Bool) (m n : List State) → l ≡ m ++ n → cond b (source_state s τ ∷ l) l ≡ cond b (source_state s τ ∷ m) m ++ n
    go true m n e = ap (λ (l : List State). source_state s τ ∷ l) e
    go false m n e = e

module _ (t : Task) (wf : T (well_formed t)) (k : ℕ) (h : k < preference_count t) where
  abbrev c : Task
  c = translated t

  abbrev q : Preference
  q = preference_at t k

  -- φ and ψ in the states left so far
  abbrev now : List ℕ → List Observation
  now xs = map (seen q) (left t c xs)

  now_on : (xs ys : List ℕ) → now (xs ++ ys) ≡ now xs ++ map (seen q) (left_from t c (final c xs) ys)
  now_on xs ys = ap (map (seen q)) (left_append t c (opening c) xs ys) ∙ map-append (seen q) (left t c xs) (left_from t c (final c xs) ys)

  kind_of_lem : (xs : List ℕ) → T (broken t (final c xs) k) → T (losable q.kind)
  kind_of_lem xs = shows-losable q.kind (final c xs (fact_s t.facts k)) (final c xs (fact_b t.facts k))

  missed_now : (xs : List ℕ) → T (runs c (opening c) xs) → T (broken t (final c xs) k) → met q.kind (now xs) ≡ false
  missed_now xs ok b = as_false (met q.kind (now xs)) (subst T (exactly t wf k h (kind_of_lem xs b) xs ok) b)

  -- it stays shown broken
  pub broken_stays : (xs ys : List ℕ) → T (runs c (opening c) (xs ++ ys)) → T (broken t (final c xs) k) → T (broken t (final c (xs ++ ys)) k)
  broken_stays xs ys ok b =
      let later : List Observation = map (seen q) (left_from t c (final c xs) ys) in
      let none : met q.kind (now xs ++ later) ≡ false =
      missed_on q.kind (kind_of_lem xs b) (now xs) later (missed_now xs (runs_front c (opening c) xs ys ok) b) in
      as_t (exactly t wf k h (kind_of_lem xs b) (xs ++ ys) ok ∙ ap not (ap (met q.kind) (now_on xs ys) ∙ none))

  -- and the source part so far misses it
  broken_missed : (xs : List ℕ) → T (runs c (opening c) xs) → T (broken t (final c xs) k) → is_met t (source_part t xs) q ≡ false
  broken_missed xs ok b =
      let last : List State = cond (final c xs (ended t.facts (preference_count t))) [] (singleton (final t (source_part t xs))) in
      ap (λ (l : List State). met q.kind (map (seen q) l)) (left_visited t wf xs ok)
      ∙ ap (met q.kind) (map-append (seen q) (left t c xs) last)
      ∙ missed_on q.kind (kind_of_lem xs b) (now xs) (map (seen q) last) (missed_now xs ok b)

  pub missed : (xs ys : List ℕ) → T (runs c (opening c) (xs ++ ys)) → T (is_lost t (final c xs) k) → is_met t (source_part t (xs ++ ys)) q ≡ false
  missed xs ys ok l =
      let soft : Bool = not q.hard in
      let b : T (broken t (final c xs) k) =
      and_right soft (broken t (final c xs) k) (and_left (soft && broken t (final c xs) k) (not (final c xs (fact_c t.facts k))) l) in
      broken_missed (xs ++ ys) ok (broken_stays xs ys ok b)
