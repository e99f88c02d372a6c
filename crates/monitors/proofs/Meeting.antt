-- The met preferences, found one after the other: what the loop keeps, and what it comes to on the rows that spell them.
use mathlib.Core.Path.{◌≡◌, refl, sym, ap, ap₂, ◌∙◌}
use mathlib.Core.Bool.{Bool, true, false, not, cond, ◌&&◌, ◌||◌, or_assoc, or-false, and-true, and-false}
use mathlib.Core.List.{List, [], ◌∷◌, map}
use Prim.Native.Nat.{ℕ, suc, ◌+◌, ◌-◌, ◌≤◌, ◌<◌}
use native.Mathlib.Nat.{add-zero, zero-add}
use native.Mathlib.Omega.{arith}
use lib.Dec.{leb, eqb, ltb}
use lib.ListN.{length, drop, get_or}
use borrow.Author.Tests.{ne_eqb, eq-eqb, lt-ltb, le-leb, lt-leb, eqb-true, eqb-false, ltb-true, ltb-false}
use Rattle.lists.specs.Lists.{concat_map, first_failing}
use Rattle.meaning.specs.Task.{Preference}
use Rattle.task.specs.TaskRows.{opening_mark, preference_rows}
use Rattle.task.specs.File.{paired, soft_mark, kind_of}
use Rattle.meaning.specs.Meaning.{State as Facts, no_preference}
use Rattle.meaning.specs.Monitor.{Monitor, accepting}
use Rattle.monitor.specs.Packed.{monitor_at}
use Rattle.layout.specs.Counting.{count_at}
use Rattle.monitors.specs.Met.{Met, kept_with, one, none_met, found, as_found}
use Rattle.monitors.specs.declared.met.Found.{Found}
use Rattle.task.proofs.Hard.{soft_back, hard_back}
use Rattle.monitor.proofs.Accepting.{accepting_by_mark}
use Rattle.layout.proofs.Counting.{count_all, preferences_counted}

-- what holds before row i is read
pub record Finding (ms : List ℕ) (at : ℕ) (f : List ℕ) (r : Found) (i : ℕ) : Type 0 where
  pub rows_left : i ≤ length ms
  pub few : r.number ≤ i
  pub fewer : r.kept ≤ i
  pub same : (vs : List ℕ) → count_at (found f) (as_found r) ms vs i ≡ count_at (found f) none_met ms vs at

-- Preference by preference, with monitors μ

module _ (f : List ℕ) (μ : Preference → Monitor) where
  abbrev ok : Preference → Bool
  ok q = accepting q.kind (μ q)

  -- it is soft or met
  abbrev safe : Preference → Bool
  safe q = not q.hard || ok q

  one_number : (t : Met) (h b : Bool) → (one t h b).number ≡ t.number + 1
  one_number t h true = refl
  one_number t h false = refl

  one_kept : (t : Met) (h b : Bool) → (one t h b).kept ≡ kept_with t.number t.kept h b
  one_kept t h true = refl
  one_kept t h false = refl

  -- the monitors of qs stand in f from number n on
  abbrev MonitorsFrom : ℕ → List Preference → Type 0
  MonitorsFrom n qs = (j : ℕ) → j < length qs → monitor_at f (n + j) ≡ μ (get_or qs j no_preference)

  abbrev add_all : Met → List Preference → Met
  add_all t [] = t
  add_all t (q ∷ qs) = add_all (one t q.hard (ok q)) qs

  by_monitors : (t : Met) (qs : List Preference) → MonitorsFrom t.number qs → count_all (found f) t qs ≡ add_all t qs
  by_monitors t [] m = refl
  by_monitors t (q ∷ qs) m =
      let e : accepting (kind_of (soft_mark (opening_mark q.hard q.kind)) 0) (monitor_at f t.number) ≡ ok q =
      ap (λ (m : ℕ). accepting (kind_of m 0) (monitor_at f t.number)) (soft_back q.hard q.kind)
      ∙ accepting_by_mark q.kind 0 (monitor_at f t.number) ∙ ap (accepting q.kind) (ap (monitor_at f) (sym (add-zero t.number)) ∙ m 0 (omega arith)) in
      ap₂ (λ (h b : Bool). count_all (found f) (one t h b) qs) (hard_back q.hard q.kind) e
      ∙ by_monitors (one t q.hard (ok q)) qs
      (λ j h. ap (λ (n : ℕ). monitor_at f (n + j)) (one_number t q.hard (ok q)) ∙ ap (monitor_at f) (shift t.number j) ∙ m (suc j) (omega arith))
    where
      shift : (n j : ℕ) → n + 1 + j ≡ n + suc j
      shift n j = omega arith

  -- a list of outcomes as a set, the first being that of number n
  abbrev from : ℕ → List Bool → Facts
  from n bs x = leb n x && get_or bs (x - n) false

  from_none : (n x : ℕ) → from n [] x ≡ false
  from_none n x = and-false (leb n x)

  from_more : (n x : ℕ) (b : Bool) (bs : List Bool) → (b && eqb x n || from (n + 1) bs x) ≡ from n (b ∷ bs) x
  from_more n x b bs = go (ltb x n) refl (eqb x n) refl
    where
      go : (u : Bool) → ltb x n ≡ u → (v : Bool) → eqb x n ≡ v → (b && v || from (n + 1) bs x) ≡ from n (b ∷ bs) x
      go true p v q =
          let less : x < n = ltb-true x n p in
          let other : v ≡ false = sym q ∙ ne_eqb x n (λ e. omega arith) in
          let later : x < n + 1 = omega arith in
          rw (other, lt-leb n x less, lt-leb (n + 1) x later) (ap (λ (c : Bool). c || false) (and-false b))
      go false p true q =
          let same : x ≡ n = eqb-true x n q in
          let here : n ≤ x = omega arith in
          let later : x < n + 1 = omega arith in
          let first : x - n ≡ 0 = omega arith in
          rw (le-leb n x here, lt-leb (n + 1) x later, first) (ap (λ (c : Bool). c || false) (and-true b) ∙ or-false b)
      go false p false q =
          let apart : x ≡ n → ⊥ = eqb-false x n q in
          let more : n ≤ x = ltb-false x n p in
          let later : n + 1 ≤ x = omega arith in
          let next : x - n ≡ suc (x - (n + 1)) = omega arith in
          rw (le-leb n x more, le-leb (n + 1) x later, next) (ap (λ (c : Bool). c || get_or bs (x - (n + 1)) false) (and-false b))

  met_set_lem : (t : Met) (qs : List Preference) → t.number + length qs ≤ 128 → (x : ℕ)
      → (add_all t qs).met x ≡ (t.met x || from t.number (map ok qs) x)
  met_set_lem t [] h x = sym (ap (λ (b : Bool). t.met x || b) (from_none t.number x) ∙ or-false (t.met x))
  met_set_lem t (q ∷ qs) h x =
      let few : t.number < 128 = omega arith in
      met_set_lem (one t q.hard (ok q)) qs (omega (arith, one_number t q.hard (ok q))) x
      ∙ ap₂ (λ (b : Bool) (n : ℕ). b || from n (map ok qs) x) (put few (ok q)) (one_number t q.hard (ok q))
      ∙ or_assoc (t.met x) (ok q && eqb x t.number) (from (t.number + 1) (map ok qs) x)
      ∙ ap (λ (b : Bool). t.met x || b) (from_more t.number x (ok q) (map ok qs))
    where
      put : t.number < 128 → (b : Bool) → (one t q.hard b).met x ≡ (t.met x || b && eqb x t.number)
      put few true = ap (λ (c : Bool). t.met x || c && eqb x t.number) (lt-ltb t.number 128 few)
      put few false = sym (or-false (t.met x))

  -- How many are kept

  all_numbered : (t : Met) (qs : List Preference) → (add_all t qs).number ≡ t.number + length qs
  all_numbered t [] = sym (add-zero t.number)
  all_numbered t (q ∷ qs) = all_numbered (one t q.hard (ok q)) qs ∙ omega (arith, one_number t q.hard (ok q))

  stuck : (t : Met) (qs : List Preference) → t.kept < t.number → (add_all t qs).kept ≡ t.kept
  stuck t [] h = refl
  stuck t (q ∷ qs) h =
      let same : (one t q.hard (ok q)).kept ≡ t.kept =
      one_kept t q.hard (ok q) ∙ ap (λ (b : Bool). cond (b && safe q) (t.kept + 1) t.kept) (ne_eqb t.kept t.number (λ e. omega arith)) in
      stuck (one t q.hard (ok q)) qs (omega (arith, one_number t q.hard (ok q))) ∙ same

  all_kept : (t : Met) (qs : List Preference) → t.kept ≡ t.number → (add_all t qs).kept ≡ t.kept + first_failing safe qs
  all_kept t [] h = sym (add-zero t.kept)
  all_kept t (q ∷ qs) h =
      go (safe q) (one_kept t q.hard (ok q) ∙ ap (λ (b : Bool). cond (b && safe q) (t.kept + 1) t.kept) (eq-eqb t.kept t.number h))
      (all_kept (one t q.hard (ok q)) qs)
    where
      t' : Met
      t' = one t q.hard (ok q)

      go : (b : Bool) → t'.kept ≡ cond b (t.kept + 1) t.kept → (t'.kept ≡ t'.number → (add_all t' qs).kept ≡ t'.kept + first_failing safe qs)
          → (add_all t' qs).kept ≡ t.kept + cond b (suc (first_failing safe qs)) 0
      go true e rest = rest (omega (arith, one_number t q.hard (ok q))) ∙ omega arith
      go false e rest = stuck t' qs (omega (arith, one_number t q.hard (ok q))) ∙ omega arith

  module _ (ms vs : List ℕ) (at : ℕ) (qs : List Preference) (e : drop at (paired ms vs) ≡ concat_map preference_rows qs)
      (m : (j : ℕ) → j < length qs → monitor_at f j ≡ μ (get_or qs j no_preference)) where
    counted : count_at (found f) none_met ms vs at ≡ add_all none_met qs
    counted = preferences_counted (found f) none_met ms vs at qs e ∙ by_monitors none_met qs (λ j h. ap (monitor_at f) (zero-add j) ∙ m j h)

    pub number_is : (count_at (found f) none_met ms vs at).number ≡ length qs
    number_is = ap (λ (t : Met). t.number) counted ∙ all_numbered none_met qs ∙ zero-add (length qs)

    pub kept_is : (count_at (found f) none_met ms vs at).kept ≡ first_failing safe qs
    kept_is = ap (λ (t : Met). t.kept) counted ∙ all_kept none_met qs refl ∙ zero-add (first_failing safe qs)

  pub met_is : (ms vs : List ℕ) (at : ℕ) (qs : List Preference) → drop at (paired ms vs) ≡ concat_map preference_rows qs
      → length qs ≤ 16 → ((j : ℕ) → j < length qs → monitor_at f j ≡ μ (get_or qs j no_preference))
      → (x : ℕ) → (count_at (found f) none_met ms vs at).met x ≡ get_or (map ok qs) x false
  met_is ms vs at qs e few m x =
      ap (λ (t : Met). t.met x) (preferences_counted (found f) none_met ms vs at qs e ∙ by_monitors none_met qs (λ j h. ap (monitor_at f) (zero-add j) ∙ m j h))
      ∙ met_set_lem none_met qs (omega arith) x
      ∙ (let e : x - 0 ≡ x = omega arith in let h : 0 ≤ x = omega arith in rw (le-leb 0 x h, e))
