-- The rows of collect and forgo are those of the translated task.
use mathlib.Core.Path.{◌≡◌, refl, sym, ap, ◌∙◌}
use mathlib.Core.Bool.{Bool, true, false, cond}
use mathlib.Core.List.{List, [], ◌∷◌, ◌++◌, append-nil}
use Prim.Native.Nat.{ℕ, zero, suc, ◌+◌, ◌*◌, ◌-◌, ◌≤◌, ◌<◌}
use native.Mathlib.Numerals.{add-one}
use native.Mathlib.Omega.{arith}
use lib.Dec.{T, eqb}
use lib.ListN.{length, drop, get_or, drop_of_length-le}
use lib.Seq.{drop-cons}
use borrow.Author.Tests.{ne_eqb, eq-eqb, lt-leb}
use Rattle.lists.specs.Lists.{all, singleton, concat_map, concat_from}
use Rattle.task.specs.Marks.{LACKS}
use Rattle.meaning.specs.Task.{Condition, Preference}
use Rattle.task.specs.TaskRows.{Row, clause_rows, condition_rows, action_rows, preference_rows}
use Rattle.task.specs.File.{paired, opens_hard, soft_mark, kind_of}
use Rattle.meaning.specs.Meaning.{no_preference}
use Rattle.task.specs.Rows.{value_at, steps_at}
use Rattle.task.specs.Spelling.{kind_spellable}
use Rattle.lists.proofs.Tests.{concat-append, all_at}
use Rattle.task.proofs.Reading.{value_at_lem}
use Rattle.task.proofs.Steps.{hard_at, kind_at}
use Rattle.classical.specs.Translation.{lacks_fact, alone, fact_s, fact_b, fact_c, ended, met_clause}
use Rattle.classical.specs.Translation.{closing, collect, forgo, closings}
use Rattle.layout.specs.Sides.{starts_from, after_preference}
use Rattle.layout.proofs.Starting.{within_rows_lem, after_is}
use Rattle.writer.specs.Writer.{Wrote}
use Rattle.writer.specs.declared.Cursor.{Cursor}
use Rattle.writer.proofs.Putting.{Onward, Kept, kept_on, then, wrote_none, wrote_full, as_rows}
use Rattle.effects.specs.Effects.{single_rows}
use Rattle.trackers.proofs.TrackerRows.{concat_from_lem}
use Rattle.closings.specs.Closings.{missed, never_rows, closing_rows, forgone_rows, preference_closings}
use Rattle.closings.specs.Closings.{closings_at, closings_from, closing_by}

closing_first : (F P cost : ℕ) (outcome : Condition) (s E : ℕ) → s ≡ fact_s F 0 → E ≡ ended F P
    → closing_rows cost (eqb s F) s E (condition_rows outcome) ≡ action_rows (closing F P 0 cost outcome)
closing_first F P cost outcome s E p q =
    let same : s ≡ F = omega arith in
    let c : s + 2 ≡ fact_c F 0 = omega arith in
    rw (eq-eqb s F same, c, q) refl

closing_next : (F P k cost : ℕ) (outcome : Condition) (s E : ℕ) → s ≡ fact_s F (suc k) → E ≡ ended F P
    → closing_rows cost (eqb s F) s E (condition_rows outcome) ≡ action_rows (closing F P (suc k) cost outcome)
closing_next F P k cost outcome s E p q =
    let c : s + 2 ≡ fact_c F (suc k) = omega arith in
    let before : s - 1 ≡ fact_c F k = omega arith in
    rw (ne_eqb s F (λ e. omega arith), c, before, q) refl

closing_is : (F P k cost : ℕ) (outcome : Condition) (s E : ℕ) → s ≡ fact_s F k → E ≡ ended F P
    → closing_rows cost (eqb s F) s E (condition_rows outcome) ≡ action_rows (closing F P k cost outcome)
closing_is F P zero cost outcome s E p q = closing_first F P cost outcome s E p q
closing_is F P (suc k) cost outcome s E p q = closing_next F P k cost outcome s E p q

never_is : (F P E : ℕ) → E ≡ ended F P → (hard : Bool)
    → never_rows hard E ≡ condition_rows (cond hard (alone (singleton (lacks_fact (ended F P)))) [])
never_is F P E e true = ap (single_rows LACKS) e
never_is F P E e false = refl

closings_are : (F P k E : ℕ) (q : Preference) → E ≡ ended F P
    → preference_closings (eqb (fact_s F k) F) (fact_s F k) E q ≡ concat_map action_rows (collect F P k q ∷ forgo F P k q ∷ [])
closings_are F P k E q e =
    let S : ℕ = fact_s F k in
    let B : ℕ = fact_b F k in
    let first : Bool = eqb (fact_s F k) F in
    let collected : closing_rows 0 first S E (clause_rows (met_clause S B q.kind)) ≡ action_rows (collect F P k q) =
    ap (closing_rows 0 first S E) (sym (append-nil (clause_rows (met_clause S B q.kind))))
    ∙ closing_is F P k 0 (singleton (met_clause S B q.kind)) S E refl e in
    let never : Condition = cond q.hard (alone (singleton (lacks_fact (ended F P)))) [] in
    let forgone : closing_rows q.weight first S E (forgone_rows S E q) ≡ action_rows (forgo F P k q) =
    ap (λ (xs : List Row). closing_rows q.weight first S E (condition_rows (missed S B q.kind) ++ xs)) (never_is F P E e q.hard)
    ∙ ap (closing_rows q.weight first S E) (sym (concat-append clause_rows (missed S B q.kind) never))
    ∙ closing_is F P k q.weight (missed S B q.kind ++ never) S E refl e in
    (λ z. collected z ++ (forgone ∙ sym (append-nil (action_rows (forgo F P k q)))) z)

-- by the mark and the value that were read
closings_read : (ms vs : List ℕ) (at : ℕ) (first : Bool) (s E : ℕ) (q : Preference) (qs : List Preference)
    → drop at (paired ms vs) ≡ concat_map preference_rows (q ∷ qs) → T (kind_spellable q.kind) → closings_at ms vs at first s E ≡ preference_closings first s E q
closings_read ms vs at first s E q qs e fine =
    let h : at < length ms = within_rows_lem ms vs at q qs e in
    let rule : opens_hard (get_or ms at 0) ≡ q.hard = hard_at ms vs at q (concat_map preference_rows qs) e h in
    let kind : kind_of (soft_mark (get_or ms at 0)) (steps_at ms vs at) ≡ q.kind = kind_at ms vs at q (concat_map preference_rows qs) e h fine in
    let weight : value_at vs at ≡ q.weight = value_at_lem ms vs at h e in
    rw (lt-leb (length ms) at h)
    (λ z. closing_rows 0 first s E (clause_rows (met_clause s (s + 1) (kind z)))
    ++ closing_rows (weight z) first s E (condition_rows (missed s (s + 1) (kind z)) ++ never_rows (rule z) E))

module _ (ms vs : List ℕ) (F P E : ℕ) (e_is : E ≡ ended F P) (qs : List Preference) (fine : T (all (λ (q : Preference). kind_spellable q.kind) qs)) where
  abbrev pair : ℕ → Preference → List Row
  pair k q = concat_map action_rows (collect F P k q ∷ forgo F P k q ∷ [])

  -- preference number c of qs stands at row `at`, and n of them are left
  all_from : (n c : ℕ) → c + n ≡ length qs → (at : ℕ) → drop at (paired ms vs) ≡ concat_map preference_rows (drop c qs) → (s : ℕ) → s ≡ fact_s F c
      → closings_from ms vs F E (starts_from ms at n) s ≡ concat_from pair c (drop c qs)
  all_from zero c many at e s fact = ap (concat_from pair c) (sym (drop_of_length-le qs {i = c} (omega arith)))
  all_from (suc n) c many at e s fact =
      let l : c < length qs = omega arith in
      let q : Preference = get_or qs c no_preference in
      let split : drop c qs ≡ q ∷ drop (c + 1) qs = drop-cons qs c no_preference l ∙ ap (λ (k : ℕ). q ∷ drop k qs) (sym (add-one c)) in
      let here : drop at (paired ms vs) ≡ concat_map preference_rows (q ∷ drop (c + 1) qs) = e ∙ ap (concat_map preference_rows) split in
      let timed : T (kind_spellable q.kind) = all_at (λ (p : Preference). kind_spellable p.kind) qs c no_preference fine l in
      (λ z. (closings_read ms vs at (eqb s F) s E q (drop (c + 1) qs) here timed ∙ ap (λ (n : ℕ). preference_closings (eqb n F) n E q) fact ∙ closings_are F P c E q e_is) z
      ++ all_from n (c + 1) (omega arith) (after_preference ms at) (after_is ms vs at q (drop (c + 1) qs) here) (s + 3) (omega arith) z)
      ∙ ap (concat_from pair c) (sym split)

  pub closings-all : (at : ℕ) → drop at (paired ms vs) ≡ concat_map preference_rows qs → (starts : List ℕ) → starts ≡ starts_from ms at (length qs)
      → closing_by ms vs starts F E ≡ concat_map action_rows (closings F P 0 qs)
  closings-all at e starts same =
      ap (λ (l : List ℕ). closings_from ms vs F E l F) same
      ∙ all_from (length qs) 0 (omega arith) at e F (omega arith)
      ∙ concat_from_lem action_rows (λ (k : ℕ) (q : Preference). collect F P k q ∷ forgo F P k q ∷ []) 0 qs

-- what holds before preference i is read, whose facts begin with s
pub record Closed (ms vs : List ℕ) (F E : ℕ) (starts b : List ℕ) (c : Cursor) (s₀ : ℕ) (out : List ℕ) (k : Cursor) (s i : ℕ) : Type 0 where
  pub so_far : Kept b out k
  pub fact : s ≡ s₀ + 3 * i
  pub within : i ≤ length starts
  pub onward : Onward b c (closings_from ms vs F E starts s₀) out k (closings_from ms vs F E (drop i starts) s)

module _ (ms vs : List ℕ) (F E : ℕ) (starts : List ℕ) {b : List ℕ} {c : Cursor} {s₀ : ℕ} {out : List ℕ} {k : Cursor} {s i : ℕ}
    (t : Closed ms vs F E starts b c s₀ out k s i) where
  pub closed_on : i < length starts → {out' : List ℕ} {k' : Cursor} → length out' ≡ length out → Wrote out k (closings_at ms vs (get_or starts i 0) (eqb s F) s E) k' out'
      → Closed ms vs F E starts b c s₀ out' k' (s + 3) (i + 1)
  closed_on l same w =
      let at : ℕ = get_or starts i 0 in
      let e : drop i starts ≡ at ∷ drop (i + 1) starts = drop-cons starts i 0 l ∙ ap (λ (n : ℕ). at ∷ drop n starts) (sym (add-one i)) in
      record {
        so_far = kept_on t.so_far same w;
        fact = omega (arith, t.fact);
        within = omega arith;
        onward = λ x o v. t.onward x o (as_rows (ap (λ (l : List ℕ). closings_from ms vs F E l s) (sym e)) (then w v));
      }

  pub closed_all : length starts ≤ i → Wrote b c (closings_from ms vs F E starts s₀) k out
  closed_all h = t.onward k out (as_rows (ap (λ (l : List ℕ). closings_from ms vs F E l s) (sym (drop_of_length-le starts {i = i} h))) (wrote_none t.so_far.room))

  pub closed_full : 12001 ≤ k.next → Wrote b c (closings_from ms vs F E starts s₀) k out
  closed_full l = t.onward k out (wrote_full (closings_from ms vs F E (drop i starts) s) t.so_far.room l)
