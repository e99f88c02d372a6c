-- The rows that trackers are spelled with are those of their effects.
use mathlib.Core.Path.{◌≡◌, refl, sym, ap, ◌∙◌}
use mathlib.Core.Bool.{Bool, true, false}
use mathlib.Core.List.{List, [], ◌∷◌, ◌++◌, map, append_assoc, append-nil}
use Prim.Native.Nat.{ℕ, zero, suc, ◌+◌, ◌*◌, ◌<◌}
use native.Mathlib.Nat.{le_of_suc-le-suc, not-suc-le-zero}
use native.Mathlib.Numerals.{add-one}
use native.Mathlib.Omega.{arith}
use lib.Dec.{T}
use lib.ListN.{length, take, drop, get_or, drop_of_length-le}
use lib.Seq.{drop-cons}
use borrow.Author.Tests.{lt-leb}
use Rattle.lists.specs.Lists.{all, singleton, range, concat_map, concat_from}
use Rattle.task.specs.Marks.{EFFECT, LACKS, ADD, DELETE}
use Rattle.meaning.specs.Task.{Kind, always, sometime, at_end, at_most_once, sometime_before, sometime_after, within, always_within, Condition, Effect}
use Rattle.meaning.specs.Task.{Preference, two_sided}
use Rattle.task.specs.TaskRows.{Row, row, kind_mark, condition_rows, effect_rows, preference_rows}
use Rattle.task.specs.File.{paired, soft_mark, kind_of}
use Rattle.meaning.specs.Meaning.{no_preference}
use Rattle.task.specs.Spelling.{kind_spellable}
use Rattle.task.specs.Rows.{steps_at}
use Rattle.lists.proofs.Tests.{concat-append, all_at}
use Rattle.task.proofs.Steps.{kind_at}
use Rattle.classical.specs.Translation.{holds_fact, lacks_fact, alone, effect, fact_s, further_facts, further, before_d, fact_d, each_false, trackers_of, trackers_for}
use Rattle.layout.specs.Sides.{part, Located, sides_at, after_preference, starts_from}
use Rattle.layout.proofs.Starting.{within_rows_lem, at_sides, after_is}
use Rattle.kind_trackers.specs.declared.Facts.{Facts}
use Rattle.effects.specs.Effects.{single_rows}
use Rattle.effects.proofs.EffectRows.{effects_append, effect_rows_lem, add_rows, delete_rows, false_is}
use Rattle.kind_trackers.specs.Rows.{change_rows, before_rows, after_rows, onward_rows, within_rows, wait_rows, reset_rows, soon_rows, tracker_rows}
use Rattle.trackers.specs.Trackers.{facts_from, trackers_at, further_at, trackers_from, trackers_by, all_tracker_rows}

-- parts that are made one after the other
pub concat_from_lem : {A B : Type 0} (h : B → List Row) (f : ℕ → A → List B) (k : ℕ) (xs : List A)
    → concat_from (λ (m : ℕ) (x : A). concat_map h (f m x)) k xs ≡ concat_map h (concat_from f k xs)
concat_from_lem h f k [] = refl
concat_from_lem h f k (x ∷ xs) =
    ap (λ (ys : List Row). concat_map h (f k x) ++ ys) (concat_from_lem h f (k + 1) xs) ∙ sym (concat-append h (f k x) (concat_from f (k + 1) xs))

-- The trackers of within and always-within

onwards_rows : (d k m : ℕ) → concat_map (onward_rows d) (range k m)
    ≡ concat_map effect_rows (map (λ (j : ℕ). effect (alone (singleton (holds_fact (d + j)))) (singleton (d + (j + 1))) []) (range k m))
onwards_rows d k zero = refl
onwards_rows d k (suc m) = ap (λ (us : List Row). onward_rows d k ++ us) (onwards_rows d (k + 1) m)

module _ (last : Bool) (f : Facts) (t : ℕ) (φ ψ : Condition) where
  within_trackers : within_rows f t (condition_rows φ) (condition_rows ψ) ≡ concat_map effect_rows (trackers_of (within t) last f.s f.b f.d φ ψ)
  within_trackers =
      let d : ℕ = f.d in
      let onwards : List Effect = map (λ (j : ℕ). effect (alone (singleton (holds_fact (d + j)))) (singleton (d + (j + 1))) []) (range 1 t) in
      let reaches : Effect = effect (alone (singleton (lacks_fact (d + (t + 1)))) ++ φ) (singleton f.s) [] in
      ap (λ (us : List Row). change_rows [] [] ADD (d + 1) ++ us)
      ((λ z. onwards_rows d 1 t z ++ (sym (add_rows (alone (singleton (lacks_fact (d + (t + 1))))) φ f.s) ∙ sym (append-nil (effect_rows reaches))) z)
      ∙ sym (effects_append onwards (singleton reaches)))

  abbrev waits_at : ℕ → List Effect
  waits_at j = each_false (alone (singleton (holds_fact (f.d + j)))) ψ (singleton (fact_d t f.s f.d (j + 1)))

  waits_rows : (k m : ℕ) → concat_map (wait_rows f t (condition_rows ψ)) (range k m) ≡ concat_map effect_rows (concat_map waits_at (range k m))
  waits_rows k zero = refl
  waits_rows k (suc m) =
      (λ z. false_is (alone (singleton (holds_fact (f.d + k)))) (singleton (fact_d t f.s f.d (k + 1))) ψ z ++ waits_rows (k + 1) m z)
      ∙ sym (effects_append (waits_at k) (concat_map waits_at (range (k + 1) m)))

  soon_trackers : soon_rows f t (condition_rows φ) (condition_rows ψ) ≡ concat_map effect_rows (trackers_of (always_within t) last f.s f.b f.d φ ψ)
  soon_trackers =
      let deleted : List ℕ = f.b ∷ range (f.d + 1) t in
      let begins : List Effect = each_false φ ψ (f.b ∷ fact_d t f.s f.d 1 ∷ []) in
      let waits : List Effect = concat_map waits_at (range 1 t) in
      let resets : Effect = effect (alone (singleton (lacks_fact f.s)) ++ ψ) [] deleted in
      let reset : reset_rows f t (condition_rows ψ) ≡ effect_rows resets ++ [] =
      ap (λ (us : List Row). row EFFECT 0 ∷ (single_rows LACKS f.s ++ us))
      (append_assoc (condition_rows ψ) (row DELETE f.b ∷ []) (map (row DELETE) (range (f.d + 1) t)))
      ∙ sym (effect_rows_lem (alone (singleton (lacks_fact f.s))) ψ [] deleted) ∙ sym (append-nil (effect_rows resets)) in
      (λ z. false_is φ (f.b ∷ fact_d t f.s f.d 1 ∷ []) ψ z ++ (waits_rows 1 t z ++ reset z))
      ∙ ap (λ (us : List Row). concat_map effect_rows begins ++ us) (sym (effects_append waits (singleton resets)))
      ∙ sym (effects_append begins (waits ++ singleton resets))

-- the steps of a kind that has them
abbrev steps_of : Kind → ℕ
steps_of always = 0
steps_of sometime = 0
steps_of at_end = 0
steps_of at_most_once = 0
steps_of sometime_before = 0
steps_of sometime_after = 0
steps_of (within t) = t
steps_of (always_within t) = t

-- the trackers of a kind, n being the steps that were read with its mark
pub kind_rows : (k : Kind) (n : ℕ) → kind_of (kind_mark k) n ≡ k → (last : Bool) (f : Facts) (φ ψ : Condition)
    → tracker_rows (kind_mark k) n last f (condition_rows φ) (condition_rows ψ) ≡ concat_map effect_rows (trackers_of k last f.s f.b f.d φ ψ)
unfolding tracker_rows
kind_rows always n read last f φ ψ = false_is [] (singleton f.b) φ
kind_rows sometime n read last f φ ψ = sym (add_rows [] φ f.s) ∙ sym (append-nil (effect_rows (effect φ (singleton f.s) [])))
kind_rows at_end n read true f φ ψ = sym (add_rows [] φ f.s) ∙ sym (append-nil (effect_rows (effect φ (singleton f.s) [])))
kind_rows at_end n read false f φ ψ = refl
kind_rows at_most_once n read last f φ ψ =
    let s : ℕ = f.s in
    let b : ℕ = f.b in
    let e₁ : Effect = effect (alone (lacks_fact s ∷ lacks_fact b ∷ []) ++ φ) (singleton s) [] in
    let es : List Effect = each_false (alone (singleton (holds_fact s))) φ (singleton b) in
    let e₂ : Effect = effect (alone (holds_fact s ∷ holds_fact b ∷ []) ++ φ) [] (singleton s) in
    (λ i. sym (add_rows (alone (lacks_fact s ∷ lacks_fact b ∷ [])) φ s) i
    ++ (false_is (alone (singleton (holds_fact s))) (singleton b) φ i ++ sym (delete_rows (alone (holds_fact s ∷ holds_fact b ∷ [])) φ s) i))
    ∙ ap (λ (us : List Row). effect_rows e₁ ++ (concat_map effect_rows es ++ us)) (sym (append-nil (effect_rows e₂)))
    ∙ ap (λ (us : List Row). effect_rows e₁ ++ us) (sym (effects_append es (singleton e₂)))
kind_rows sometime_before n read last f φ ψ =
    let e₂ : Effect = effect (alone (singleton (lacks_fact f.s)) ++ φ) (singleton f.b) [] in
    (λ i. sym (add_rows [] ψ f.s) i ++ (sym (add_rows (alone (singleton (lacks_fact f.s))) φ f.b) ∙ sym (append-nil (effect_rows e₂))) i)
kind_rows sometime_after n read last f φ ψ =
    let e₂ : Effect = effect ψ [] (singleton f.b) in
    (λ i. false_is φ (singleton f.b) ψ i ++ (sym (delete_rows [] ψ f.b) ∙ sym (append-nil (effect_rows e₂))) i)
    ∙ sym (effects_append (each_false φ ψ (singleton f.b)) (singleton e₂))
kind_rows (within t) n read last f φ ψ =
    ap (λ (m : ℕ). within_rows f m (condition_rows φ) (condition_rows ψ)) (ap steps_of read) ∙ within_trackers last f t φ ψ
kind_rows (always_within t) n read last f φ ψ =
    ap (λ (m : ℕ). soon_rows f m (condition_rows φ) (condition_rows ψ)) (ap steps_of read) ∙ soon_trackers last f t φ ψ

-- One preference

-- a kind of one side has no use for the rows of another
other_side : (k : Kind) (n : ℕ) (last : Bool) (f : Facts) (xs ys us : List Row) → (two_sided k ≡ true → ys ≡ us)
    → tracker_rows (kind_mark k) n last f xs ys ≡ tracker_rows (kind_mark k) n last f xs us
unfolding tracker_rows
other_side always n last f xs ys us h = refl
other_side sometime n last f xs ys us h = refl
other_side at_end n last f xs ys us h = refl
other_side at_most_once n last f xs ys us h = refl
other_side sometime_before n last f xs ys us h = ap (before_rows f xs) (h refl)
other_side sometime_after n last f xs ys us h = ap (after_rows f xs) (h refl)
other_side (within t) n last f xs ys us h = refl
other_side (always_within t) n last f xs ys us h = ap (soon_rows f n xs) (h refl)

module _ (ms vs : List ℕ) (at : ℕ) (q : Preference) (qs : List Preference) (e : drop at (paired ms vs) ≡ concat_map preference_rows (q ∷ qs)) (fine : T (kind_spellable q.kind)) where
  inside : at < length ms
  inside = within_rows_lem ms vs at q qs e

  read : kind_of (soft_mark (get_or ms at 0)) (steps_at ms vs at) ≡ q.kind
  read = kind_at ms vs at q (concat_map preference_rows qs) e inside fine

  pub trackers_are : (f : Facts) (last : Bool) → trackers_at ms vs at f last ≡ concat_map effect_rows (trackers_of q.kind last f.s f.b f.d q.first q.second)
  trackers_are f last =
      let l : Located ms vs at q qs (sides_at ms at) = at_sides ms vs at q qs e in
      let n : ℕ = steps_at ms vs at in
      let ys : List Row = part ms vs (sides_at ms at).second in
      rw (lt-leb (length ms) at inside)
      ((λ z. tracker_rows (l.mark z) n last f (l.first z) ys)
      ∙ other_side q.kind n last f (condition_rows q.first) ys (condition_rows q.second) l.second
      ∙ kind_rows q.kind n (ap (λ (m : ℕ). kind_of m n) (sym l.mark) ∙ read) last f q.first q.second)

  pub further_is : further_at ms vs at ≡ further_facts q.kind
  further_is = rw (lt-leb (length ms) at inside) (ap further_facts read)

-- All preferences

-- the fact before D1 of the next preference
before_next : (F : ℕ) (qs : List Preference) (c : ℕ) → c < length qs
    → before_d F qs (c + 1) ≡ before_d F qs c + further_facts (get_or qs c no_preference).kind
before_next F qs c h = omega (arith, ap (λ (n : ℕ). further (take n qs)) (add-one c), one_more qs c h)
  where
    one_more : (qs : List Preference) (c : ℕ) → c < length qs → further (take (suc c) qs) ≡ further (take c qs) + further_facts (get_or qs c no_preference).kind
    one_more [] c h = absurd (not-suc-le-zero h)
    one_more (q ∷ qs) zero h = omega arith
    one_more (q ∷ qs) (suc c) h = let r : further (take (suc c) qs) ≡ further (take c qs) + further_facts (get_or qs c no_preference).kind = one_more qs c (le_of_suc-le-suc h) in omega arith

module _ (ms vs : List ℕ) (F : ℕ) (last : Bool) (qs : List Preference) (fine : T (all (λ (q : Preference). kind_spellable q.kind) qs)) where
  -- preference number c of qs stands at row `at`, and n of them are left
  all_from : (n c : ℕ) → c + n ≡ length qs → (at : ℕ) → drop at (paired ms vs) ≡ concat_map preference_rows (drop c qs)
      → (s d : ℕ) → s ≡ fact_s F c → d ≡ before_d F qs c
      → trackers_from ms vs last (starts_from ms at n) s d ≡ concat_from (λ (k : ℕ) (q : Preference). concat_map effect_rows (trackers_for last F qs k q)) c (drop c qs)
  all_from zero c many at e s d fact before =
      ap (concat_from (λ (k : ℕ) (q : Preference). concat_map effect_rows (trackers_for last F qs k q)) c) (sym (drop_of_length-le qs {i = c} (omega arith)))
  all_from (suc n) c many at e s d fact before =
      let l : c < length qs = omega arith in
      let q : Preference = get_or qs c no_preference in
      let split : drop c qs ≡ q ∷ drop (c + 1) qs = drop-cons qs c no_preference l ∙ ap (λ (k : ℕ). q ∷ drop k qs) (sym (add-one c)) in
      let here : drop at (paired ms vs) ≡ concat_map preference_rows (q ∷ drop (c + 1) qs) = e ∙ ap (concat_map preference_rows) split in
      let timed : T (kind_spellable q.kind) = all_at (λ (p : Preference). kind_spellable p.kind) qs c no_preference fine l in
      let more : further_at ms vs at ≡ further_facts q.kind = further_is ms vs at q (drop (c + 1) qs) here timed in
      (λ z. (trackers_are ms vs at q (drop (c + 1) qs) here timed (facts_from s d) last
      ∙ (λ y. concat_map effect_rows (trackers_of q.kind last (fact y) (fact y + 1) (before y) q.first q.second))) z
      ++ all_from n (c + 1) (omega arith) (after_preference ms at) (after_is ms vs at q (drop (c + 1) qs) here) (s + 3) (d + further_at ms vs at)
      (omega arith) (omega (arith, more, before, before_next F qs c l)) z)
      ∙ ap (concat_from (λ (k : ℕ) (q : Preference). concat_map effect_rows (trackers_for last F qs k q)) c) (sym split)

  -- where the rows spell qs from row `at` on
  pub all_are : (at : ℕ) → drop at (paired ms vs) ≡ concat_map preference_rows qs → (starts : List ℕ) → starts ≡ starts_from ms at (length qs)
      → length starts ≡ length qs → trackers_by ms vs starts F last ≡ all_tracker_rows last F qs
  all_are at e starts same many =
      ap (λ (l : List ℕ). trackers_from ms vs last l F (F + 3 * length starts + 1)) same
      ∙ all_from (length qs) 0 (omega arith) at e F (F + 3 * length starts + 1) (omega arith) (omega (arith, many))
      ∙ concat_from_lem effect_rows (trackers_for last F qs) 0 qs
