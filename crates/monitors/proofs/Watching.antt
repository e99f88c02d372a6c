-- The loop over the preferences: one monitor after the other sees the state.
use mathlib.Core.Path.{◌≡◌, refl, sym, ap, ◌∙◌, subst, subst⁻¹}
use mathlib.Core.Bool.{Bool, true, false, cond}
use mathlib.Core.List.{List, ◌∷◌}
use Prim.Native.Nat.{ℕ, suc, ◌+◌, ◌*◌, ◌≤◌, ◌<◌}
use native.Mathlib.Nat.{zero-add}
use native.Mathlib.Numerals.{add-one}
use native.Mathlib.Omega.{arith}
use lib.Dec.{T, eqb, ltb}
use lib.ListN.{length, drop, get_or, set, drop_of_length-le}
use lib.Seq.{drop-cons, get_or-set_same, get_or-set_other}
use borrow.Author.Tests.{ne_eqb, ltb-true, ltb-false, eqb-true, eqb-false}
use Rattle.lists.specs.Lists.{all, concat_map, non_empty}
use Rattle.meaning.specs.Task.{Kind, Preference}
use Rattle.task.specs.TaskRows.{Row, preference_rows}
use Rattle.task.specs.File.{paired, soft_mark, kind_of}
use Rattle.task.specs.Rows.{steps_at}
use Rattle.task.specs.Spelling.{preference_spellable}
use Rattle.meaning.specs.Meaning.{State as Facts, seen, no_preference}
use Rattle.meaning.specs.Literals.{looked_preference, looked_preferences}
use Rattle.meaning.specs.Monitor.{Monitor, step}
use Rattle.lists.proofs.Tests.{tests, all_at}
use Rattle.task.proofs.Reading.{row_at, row_end}
use Rattle.task.proofs.Positions.{drop_after}
use Rattle.task.proofs.Steps.{kind_at}
use Rattle.monitors.specs.declared.Sides.{Sides}
use Rattle.monitor.specs.Packed.{monitor_of, monitor_at}
use Rattle.monitors.specs.Monitors.{sides_at, MOST_LOOKED, ForPreferences, Watched}
use Rattle.monitors.proofs.SidesRead.{SidesOf, sides_are}

-- the byte of one put into a list
pub monitor_put : (l : List ℕ) (k : ℕ) → k < length l → (m : ℕ) (x : Monitor) → monitor_of m ≡ x
    → (j : ℕ) → monitor_at (set l k m) j ≡ cond (eqb j k) x (monitor_at l j)
monitor_put l k h m x e j = go (eqb j k) refl
  where
    go : (b : Bool) → eqb j k ≡ b → monitor_at (set l k m) j ≡ cond b x (monitor_at l j)
    go true p = ap (λ (n : ℕ). monitor_at (set l k m) n) (eqb-true j k p) ∙ ap monitor_of (get_or-set_same l k m 0 h) ∙ e
    go false p = ap monitor_of (get_or-set_other l k j m 0 (eqb-false j k p))

-- k monitors have seen σ, with so many literals looked at, and the next preference stands at row i
pub record SeenBy (ms vs : List ℕ) (last : Bool) (σ : Facts) (before : List ℕ) (qs : List Preference) (now : List ℕ) (looked k i : ℕ) : Type 0 where
  pub within : k ≤ length qs
  pub rest : drop i (paired ms vs) ≡ concat_map preference_rows (drop k qs)
  pub literals : looked + looked_preferences σ (drop k qs) ≡ looked_preferences σ qs
  pub done : (j : ℕ) → j < k
      → monitor_at now j ≡ step (get_or qs j no_preference).kind last (monitor_at before j) (seen (get_or qs j no_preference) σ)
  pub still : (j : ℕ) → k ≤ j → monitor_at now j ≡ monitor_at before j

-- what holds before row i is read
pub record Watching (ms vs : List ℕ) (at : ℕ) (last : Bool) (σ : Facts) (before now : List ℕ) (looked k i : ℕ) : Type 0 where
  pub all_there : length now ≡ 16
  pub few : k ≤ 16
  pub few_literals : looked ≤ k * MOST_LOOKED
  pub so_far : ForPreferences ms vs at (λ (qs : List Preference). SeenBy ms vs last σ before qs now looked k i)

module _ (ms vs : List ℕ) (at : ℕ) (last : Bool) (σ : Facts) (before : List ℕ) where
  pub begins : length before ≡ 16 → Watching ms vs at last σ before before 0 0 at
  begins sixteen = record {
    all_there = sixteen;
    few = omega arith;
    few_literals = omega arith;
    so_far = λ qs there.
        record { within = omega arith; rest = there.spelled; literals = zero-add (looked_preferences σ qs); done = λ j h. absurd (omega arith); still = λ j lo. refl };
  }

  some_left : (k i : ℕ) (qs : List Preference) → i < length ms → drop i (paired ms vs) ≡ concat_map preference_rows (drop k qs) → k < length qs
  some_left k i qs h e = go (ltb k (length qs)) refl
    where
      go : (b : Bool) → ltb k (length qs) ≡ b → k < length qs
      go true p = ltb-true k (length qs) p
      go false p =
          absurd (subst (λ (l : List Row). T (non_empty l))
          (sym (row_at ms vs i h) ∙ e ∙ ap (concat_map preference_rows) (drop_of_length-le qs {i = k} (ltb-false k (length qs) p))) tt)

  none_left : (k i : ℕ) (qs : List Preference) → length ms ≤ i → drop i (paired ms vs) ≡ concat_map preference_rows (drop k qs) → length qs ≤ k
  none_left k i qs h e = go (ltb k (length qs)) refl
    where
      go : (b : Bool) → ltb k (length qs) ≡ b → length qs ≤ k
      go true p =
          absurd (subst⁻¹ (λ (l : List Row). T (non_empty l))
          (sym (row_end ms vs i h) ∙ e ∙ ap (concat_map preference_rows) (drop-cons qs k no_preference (ltb-true k (length qs) p))) tt)
      go false p = ltb-false k (length qs) p

  module _ (now then : List ℕ) (looked k i : ℕ) (h : i < length ms) (r : Sides) (sees : r ≡ sides_at σ ms vs i) (n : ℕ) (more : n ≡ looked + r.looked)
      (kind : Kind) (read : kind ≡ kind_of (soft_mark (get_or ms i 0)) (steps_at ms vs i))
      (put : (j : ℕ) → monitor_at then j
      ≡ cond (eqb j k) (step kind last (monitor_at now k) (record { φ = r.phi; ψ = r.psi })) (monitor_at now j)) where
    -- what is put at place k
    abbrev x : Monitor
    x = step kind last (monitor_at now k) (record { φ = r.phi; ψ = r.psi })

    one_more : (qs : List Preference) → T (all preference_spellable qs)
        → SeenBy ms vs last σ before qs now looked k i → SeenBy ms vs last σ before qs then n (k + 1) r.next
    one_more qs ok s =
        let left : k < length qs = some_left k i qs h s.rest in
        let q : Preference = get_or qs k no_preference in
        let others : List Preference = drop (suc k) qs in
        let here : drop k qs ≡ q ∷ others = drop-cons qs k no_preference left in
        let e : drop i (paired ms vs) ≡ concat_map preference_rows (q ∷ others) = s.rest ∙ ap (concat_map preference_rows) here in
        let fine : T (preference_spellable q) = all_at preference_spellable qs k no_preference ok left in
        let sides : SidesOf q i σ r = subst⁻¹ (SidesOf q i σ) sees (sides_are ms vs σ i h q others e fine) in
        let same : kind ≡ q.kind = read ∙ kind_at ms vs i q (concat_map preference_rows others) e h (search tests) in
        let mine : x ≡ step q.kind last (monitor_at before k) (seen q σ) =
        λ z. step (same z) last (s.still k (omega arith) z) (record { φ = sides.phi z; ψ = sides.psi z }) in
        record {
          within = omega arith;
          rest = ap (λ (n : ℕ). drop n (paired ms vs)) sides.next
              ∙ drop_after i (paired ms vs) (preference_rows q) (concat_map preference_rows others) e
              ∙ ap (λ (n : ℕ). concat_map preference_rows (drop n qs)) (sym (add-one k));
          literals = counted qs q s here sides.looked;
          done = λ j l. by_number qs s mine left j l (eqb j k) refl;
          still = λ j lo. put j ∙ ap (λ (b : Bool). cond b x (monitor_at now j)) (ne_eqb j k (λ p. omega arith)) ∙ s.still j (omega arith);
        }
      where
        counted : (qs : List Preference) (q : Preference) → SeenBy ms vs last σ before qs now looked k i → drop k qs ≡ q ∷ drop (suc k) qs
            → r.looked ≡ looked_preference σ q → n + looked_preferences σ (drop (k + 1) qs) ≡ looked_preferences σ qs
        counted qs q s here m =
            let first : looked_preferences σ (drop k qs) ≡ looked_preference σ q + looked_preferences σ (drop (suc k) qs) = ap (looked_preferences σ) here in
            let next : looked_preferences σ (drop (k + 1) qs) ≡ looked_preferences σ (drop (suc k) qs) = ap (λ (j : ℕ). looked_preferences σ (drop j qs)) (add-one k) in
            omega (arith, s.literals, first, next, more, m)

        by_number : (qs : List Preference) → SeenBy ms vs last σ before qs now looked k i
            → x ≡ step (get_or qs k no_preference).kind last (monitor_at before k) (seen (get_or qs k no_preference) σ)
            → k < length qs → (j : ℕ) → j < k + 1 → (b : Bool) → eqb j k ≡ b
            → monitor_at then j ≡ step (get_or qs j no_preference).kind last (monitor_at before j) (seen (get_or qs j no_preference) σ)
        by_number qs s mine left j l true p =
            let same : j ≡ k = eqb-true j k p in
            put j ∙ ap (λ (b : Bool). cond b x (monitor_at now j)) p
            ∙ mine
            ∙ ap (λ (n : ℕ). step (get_or qs n no_preference).kind last (monitor_at before n) (seen (get_or qs n no_preference) σ)) (sym same)
        by_number qs s mine left j l false p =
            let other : j ≡ k → ⊥ = eqb-false j k p in
            put j ∙ ap (λ (b : Bool). cond b x (monitor_at now j)) p ∙ s.done j (omega arith)

    pub goes_on : length then ≡ 16 → k < 16 → r.looked ≤ MOST_LOOKED → Watching ms vs at last σ before now looked k i
        → Watching ms vs at last σ before then n (k + 1) r.next
    goes_on sixteen small few w = record {
      all_there = sixteen;
      few = omega arith;
      few_literals = omega (arith, w.few_literals, more);
      so_far = λ qs there. one_more qs there.spelling (w.so_far qs there);
    }

  module _ (now : List ℕ) (looked k i : ℕ) (w : Watching ms vs at last σ before now looked k i) where
    over : (qs : List Preference) → length qs ≤ k → SeenBy ms vs last σ before qs now looked k i → Watched last σ before now looked qs
    over qs none s =
        let left : looked_preferences σ (drop k qs) ≡ 0 = ap (looked_preferences σ) (drop_of_length-le qs {i = k} none) in
        record { monitors = λ j l. s.done j (omega arith); literals = omega (arith, s.literals, left) }

    -- no row is left
    pub ends : length ms ≤ i → ForPreferences ms vs at (Watched last σ before now looked)
    ends h qs there = let s = w.so_far qs there in over qs (none_left k i qs h s.rest) s

    -- there are no more than 16
    pub full : 16 ≤ k → ForPreferences ms vs at (Watched last σ before now looked)
    full h qs there = let many = there.few in over qs (omega arith) (w.so_far qs there)
