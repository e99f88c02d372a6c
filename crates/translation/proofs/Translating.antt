-- A task file translated, from what check answers.
use mathlib.Core.Path.{◌≡◌, refl, sym, ap, ap₂, ◌∙◌, subst, subst⁻¹}
use mathlib.Core.Bool.{Bool, true, false, cond, ◌&&◌, ◌||◌, true≢false}
use mathlib.Core.List.{List, ◌++◌}
use Rattle.std.specs.Prelude.{Result, Ok}
use Prim.Native.Nat.{ℕ, ◌+◌, ◌*◌, ◌≤◌}
use native.Mathlib.Omega.{arith}
use lib.Dec.{T, leb, leb→le}
use lib.ListN.{length, take, drop}
use lib.Seq.{sets, sets-eq, length-sets, take_at, drop-append-add, drop-drop}
use borrow.Author.Tests.{le-leb, leb-true}
use Rattle.lists.specs.Lists.{all, is_empty}
use Rattle.meaning.specs.Task.{Preference, Task, two_sided}
use Rattle.task.specs.TaskRows.{Row, task_rows}
use Rattle.task.specs.Spelling.{preference_spellable, spellable}
use Rattle.task.specs.File
use Rattle.task.specs.File.{paired, sizes, sizes_of, task_of_rows, task_of, bytes16, file_of, marks_of, values_of}
use Rattle.task.specs.Check
use Rattle.task.specs.Check.{check}
use Rattle.task.specs.Answers.{answer as checked, as_sizes}
use Rattle.task.specs.declared.Sizes.{Sizes}
use Rattle.task.specs.declared.Refusal.{Refusal}
use Rattle.lists.proofs.Tests.{tests, all_implies}
use Rattle.task.proofs.RoundTrip.{task_back}
use Rattle.task.proofs.Bytes.{file_length}
use Rattle.task.proofs.Spelled.{Spelling, accepted_spelling}
use Rattle.task.proofs.Answered.{parts_spell, Limited, limited}
use Rattle.classical.specs.Translation.{further, translated, compiled, compiled_rows, translated_sizes}
use Rattle.translated_rows.specs.Further.{further_rows}
use Rattle.translated_rows.proofs.FurtherRows.{task_further}
use Rattle.writer.specs.Writer.{row_after, put_rows, Wrote, header}
use Rattle.writer.specs.declared.Cursor.{Cursor}
use Rattle.translated_rows.specs.Parts.{read_task, Found}
use Rattle.translated_rows.specs.declared.places.Places.{Places}
use Rattle.translation.specs.Whole.{Sized, Fitted}
use Rattle.outcome.specs.Outcome.{written, refused, fitted, area_after}
use Rattle.outcome.specs.Answers.{answer}
use Rattle.translation.specs.Translated.{rows_fitted, small_enough, outcome_by, outcome, Delivered}
use Rattle.classical.specs.Claim.{Faithful}
use Rattle.writer.proofs.Putting.{whole_file}
use Rattle.classical.proofs.Spellable.{translated_sizes_lem}
use Rattle.classical.proofs.Written.{Written, written as written_file}
use Rattle.translated_rows.proofs.TaskRows.{found}

-- The header

headed : (b h : List ℕ) → length h ≡ 8 → 8 ≤ length b → sets b 0 h ≡ h ++ drop 8 b
headed b h e l =
    let n : 0 + length h ≡ 8 = omega arith in
    sets-eq h b 0 (omega arith) ∙ ap (λ (k : ℕ). h ++ drop k b) n

-- The area

pub room_enough : (m n room : ℕ) → n ≡ row_after 0 m → n ≤ 12000 → 8 + 5 * n ≤ room → written (8 + 5 * n) ≡ rows_fitted m room
room_enough m n room e f h =
    let l : m ≤ 12000 = omega arith in
    let g : 8 + 5 * m ≤ room = omega arith in
    let same : n ≡ m = omega arith in
    rw (le-leb m 12000 l, le-leb (8 + 5 * m) room g) (ap (λ (k : ℕ). written (8 + 5 * k)) same)

-- what is written has the length that was asked for, and fits
pub fits_is : (bytes room n : ℕ) → written n ≡ fitted bytes room → (n ≡ bytes) × (bytes ≤ room)
fits_is bytes room n e = go (leb bytes room) refl e
  where
    go : (u : Bool) → leb bytes room ≡ u → written n ≡ cond u (written bytes) (refused 9 0) → (n ≡ bytes) × (bytes ≤ room)
    go true p q = (cc, leb-true bytes room p)
    go false p q = absurd (true≢false (cc))

-- written: the file, and then what stood after it
module _ (t : Task) (F A P D : ℕ) (facts : F ≡ t.facts) (acts : A ≡ length t.actions) (prefs : P ≡ length t.preferences) (more : D ≡ further t.preferences)
    (b mid out : List ℕ) (n : ℕ) (k : Cursor) (counted : n ≡ row_after 0 (length (task_rows (translated t)))) (few : n ≤ 12000) (room : 8 + 5 * n ≤ length b)
    (sized : mid ≡ sets b 0 (header (F + 3 * P + 2 + D) (A + 2 * P + 1) 0 n)) (w : Wrote mid (record { rows = n; next = 0 }) (task_rows (translated t)) k out) where
  abbrev xs : List Row
  xs = task_rows (translated t)

  n_is : n ≡ length xs
  n_is = omega (arith, counted)

  same_sizes : sizes_of (translated t) ≡ translated_sizes (sizes_of t) (further t.preferences) (length xs)
  same_sizes = translated_sizes_lem t

  facts_are : F + 3 * P + 2 + D ≡ (translated t).facts
  facts_are = (λ i. facts i + 3 * prefs i + 2 + more i) ∙ sym (ap (λ (z : File.Sizes). z.facts) same_sizes)

  actions_are : A + 2 * P + 1 ≡ length (translated t).actions
  actions_are = ap₂ (λ (a p : ℕ). a + 2 * p + 1) acts prefs ∙ sym (ap (λ (z : File.Sizes). z.actions) same_sizes)

  none_are : 0 ≡ length (translated t).preferences
  none_are = sym (ap (λ (z : File.Sizes). z.preferences) same_sizes)

  top : List ℕ
  top = bytes16 (translated t).facts ++ bytes16 (length (translated t).actions) ++ bytes16 (length (translated t).preferences) ++ bytes16 (length xs)

  mid_is : mid ≡ top ++ drop 8 b
  unfolding top
  mid_is =
      sized
      ∙ ap (sets b 0) (λ z. bytes16 (facts_are z) ++ bytes16 (actions_are z) ++ bytes16 (none_are z) ++ bytes16 (n_is z))
      ∙ headed b top refl (omega arith)

  after : drop (8 + 5 * length xs) mid ≡ drop (8 + 5 * n) b
  unfolding top
  after =
      ap (drop (8 + 5 * length xs)) mid_is
      ∙ drop-append-add top (drop 8 b) (5 * length xs)
      ∙ drop-drop (5 * length xs) 8 b
      ∙ ap (λ (m : ℕ). drop (8 + 5 * m) b) (sym n_is)

  pub file_put : out ≡ file_of (translated t) ++ drop (8 + 5 * n) b
  unfolding top
  file_put =
      let long : 8 + 5 * length xs ≤ length mid = omega (arith, ap length sized, length-sets b 0 (header (F + 3 * P + 2 + D) (A + 2 * P + 1) 0 n)) in
      w.file
      ∙ ap (λ (m : ℕ). put_rows mid m 0 xs) n_is
      ∙ whole_file mid (translated t).facts (length (translated t).actions) (length (translated t).preferences) xs long
      (ap (take 8) mid_is ∙ take_at top (drop 8 b) 8 refl)
      ∙ ap (λ (l : List ℕ). file_of (translated t) ++ l) after

-- each preference of a spellable task is spellable
spelled_preferences : (t : Task) → T (spellable t) → T (all preference_spellable t.preferences)
spelled_preferences t s = search tests

-- Faithfulness (demand 3)

module _ (b area : List ℕ) (n : ℕ) where
  first_bytes : n ≡ 8 + 5 * compiled_rows b → take n (compiled b ++ drop n area) ≡ compiled b
  first_bytes e =
      let t : Task = translated (task_of b) in
      take_at (compiled b) (drop n area) n (file_length t.facts (length t.actions) (length t.preferences) (task_rows t) ∙ sym e)

  by_answer : (x : Check.Answer) → check b ≡ x → outcome_by b (length area) x ≡ written n → Delivered b (compiled b ++ drop n area) n
  by_answer (Check.refused k i) e h = absurd (true≢false (cc))
  by_answer (Check.accepted z) e h =
      go (leb (z.facts + 3 * z.preferences + 2 + further (task_of b).preferences) 128) refl (leb (z.actions + 2 * z.preferences + 1) 128) refl (leb (compiled_rows b) 12000) refl
      (leb (8 + 5 * compiled_rows b) (length area)) h
    where
      go : (u : Bool) → leb (z.facts + 3 * z.preferences + 2 + further (task_of b).preferences) 128 ≡ u → (v : Bool) → leb (z.actions + 2 * z.preferences + 1) 128 ≡ v
          → (w : Bool) → leb (compiled_rows b) 12000 ≡ w → (x : Bool)
          → cond (u && v) (cond w (cond x (written (8 + 5 * compiled_rows b)) (refused 9 0)) (refused 8 0)) (refused 7 0) ≡ written n
          → Delivered b (compiled b ++ drop n area) n
      go false p v q w r x h = absurd (true≢false (cc))
      go true p false q w r x h = absurd (true≢false (cc))
      go true p true q false r x h = absurd (true≢false (cc))
      go true p true q true r false h = absurd (true≢false (cc))
      go true p true q true r true h =
          let d : Written b z = written_file b z e (leb-true (z.facts + 3 * z.preferences + 2 + further (task_of b).preferences) 128 p) (leb-true (z.actions + 2 * z.preferences + 1) 128 q)
          (leb-true (compiled_rows b) 12000 r) in
          let front : take n (compiled b ++ drop n area) ≡ compiled b = first_bytes (cc) in
          let own : z ≡ sizes b = (accepted_spelling b z e).same in
          let sized : sizes_of (task_of b) ≡ sizes b = (accepted_spelling b z e).sized ∙ own in
          record {
            accepting = ap check front ∙ d.accepting ∙ ap (λ (y : File.Sizes). Check.accepted (translated_sizes y (further (task_of b).preferences) (compiled_rows b))) own;
            faithfully = subst⁻¹ (λ (l : List ℕ). Faithful (task_of b) (task_of l)) front d.faithfully;
            source_actions = ap (λ (y : File.Sizes). y.actions) sized;
            written_actions =
                ap (λ (l : List ℕ). length (task_of l).actions) front
                ∙ ap (λ (t : Task). length t.actions) d.reading
                ∙ ap (λ (y : File.Sizes). y.actions) (translated_sizes_lem (task_of b))
                ∙ ap (λ (y : File.Sizes). y.actions + 2 * y.preferences + 1) sized;
          }

  delivered : outcome b (length area) ≡ written n → Delivered b (compiled b ++ drop n area) n
  unfolding outcome
  delivered h = by_answer (check b) refl h

-- The whole

-- what translate promises of its answer and of the area
abbrev pub Promised : List ℕ → List ℕ → Result ℕ Refusal → List ℕ → Type 0
Promised b area r out =
    (answer r ≡ outcome b (length area))
    × ((out ≡ area_after (compiled b) area (outcome b (length area)))
    × ((n : ℕ) → answer r ≡ written n → Delivered b out n))

pub promised : (b area : List ℕ) (r : Result ℕ Refusal) (out : List ℕ) → answer r ≡ outcome b (length area) → out ≡ area_after (compiled b) area (answer r) → Promised b area r out
promised b area r out e f = (
  e,
  (
    f ∙ ap (area_after (compiled b) area) e,
    λ n h. subst⁻¹ (λ (l : List ℕ). Delivered b l n) (f ∙ ap (area_after (compiled b) area) h) (delivered b area n (sym e ∙ h)),
  ),
)

module _ (b area : List ℕ) (x : Result Sizes Refusal) (e : checked x ≡ check b) where
  module _ (z : Sizes) (q : x ≡ Ok z) where
    pub accepted : check b ≡ Check.accepted (as_sizes z)
    accepted = sym e ∙ ap checked q

    on_task : outcome_by b (length area) (Check.accepted (as_sizes z)) ≡ outcome b (length area)
    unfolding outcome
    on_task = ap (outcome_by b (length area)) (sym accepted)

    spelling : Spelling b (as_sizes z)
    spelling = accepted_spelling b (as_sizes z) accepted

    sizes_limited : Limited b (as_sizes z)
    sizes_limited = limited b (as_sizes z) accepted

    abbrev pub ms : List ℕ
    ms = marks_of b z.rows

    abbrev pub vs : List ℕ
    vs = values_of b z.rows

    -- d facts D were counted, from the first preference on
    abbrev pub Counted : Places → ℕ → Type 0
    Counted p d = Found ms p × (d ≡ further_rows (drop p.to (paired ms vs)))

    counted_is : (p : Places) (d : ℕ) → Counted p d → d ≡ further (task_of b).preferences
    counted_is p d e =
        e.1
        ∙ ap further_rows (found ms vs (task_of b) (parts_spell b (as_sizes z) accepted) p e.0).prefs
        ∙ task_further (task_of b) spelling.spelling

    pub test_is : (p : Places) (d : ℕ) → Counted p d → (x : Bool) → small_enough (as_sizes z) d ≡ x → small_enough (as_sizes z) (further (task_of b).preferences) ≡ x
    test_is p d e x h = ap (small_enough (as_sizes z)) (sym (counted_is p d e)) ∙ h

    pub small : (d : ℕ) → small_enough (as_sizes z) d ≡ true → (z.facts + 3 * z.preferences + 2 + d ≤ 128) × (z.actions + 2 * z.preferences + 1 ≤ 128)
    small d h =
        let a : T (small_enough (as_sizes z) d) = rw h tt in (
          leb→le (z.facts + 3 * z.preferences + 2 + d) 128 (search tests),
          leb→le (z.actions + 2 * z.preferences + 1) 128 (search tests),
        )

    sized : as_sizes z ≡ sizes_of (task_of b)
    sized = sym spelling.sized

    -- the rows are read as the task in b
    pub reads : read_task z.facts ms vs ≡ task_of b
    reads =
        (λ i. task_of_rows (sized i).facts (parts_spell b (as_sizes z) accepted i))
        ∙ task_back (task_of b) (all_implies preference_spellable (λ (q : Preference). two_sided q.kind || is_empty q.second) (λ q p. search tests) (task_of b).preferences (spelled_preferences (task_of b) spelling.spelling))

    pub put_source : (p : Places) (d : ℕ) → Counted p d → small_enough (as_sizes z) d ≡ true → Sized ms vs z.facts z.actions z.preferences d
    put_source p d e h =
        record {
          source = record {
            spelled = parts_spell b (as_sizes z) accepted ∙ ap task_rows (sym reads);
            spelling = subst⁻¹ (λ (t : Task). T (spellable t)) reads spelling.spelling;
            many = ap (λ (y : File.Sizes). y.preferences) sized ∙ ap (λ (t : Task). length t.preferences) (sym reads);
            some_facts = sizes_limited.some_facts;
            few_facts = omega (arith, (small d h).0);
            few_preferences = sizes_limited.few_preferences;
          };
          actions_are = ap (λ (y : File.Sizes). y.actions) sized ∙ ap (λ (t : Task). length t.actions) (sym reads);
          further_are = counted_is p d e ∙ ap (λ (t : Task). further t.preferences) (sym reads);
          few_facts = (small d h).0;
          few_actions = (small d h).1;
        }

    pub put : (p : Places) (d : ℕ) → Counted p d → small_enough (as_sizes z) d ≡ true → (r : Result ℕ Refusal) (out : List ℕ)
        → Fitted (read_task z.facts ms vs) area r out → Promised b area r out
    put p d e h r out fits =
        let f : Fitted (task_of b) area r out = subst (λ (t : Task). Fitted t area r out) reads fits in
        promised b area r out (f.answering ∙ (rw (test_is p d e true h) at on_task)) f.area
