-- A task file rewritten, from what check answers.
use mathlib.Core.Path.{◌≡◌, refl, sym, ap, ◌∙◌, subst⁻¹}
use mathlib.Core.Bool.{Bool, true, false, cond, true≢false}
use mathlib.Core.List.{List, ◌++◌}
use mathlib.Core.Option.{Option, none, some}
use Rattle.std.specs.Prelude.{Result, Ok, Err}
use Prim.Native.Nat.{ℕ, ◌+◌, ◌*◌, ◌≤◌}
use lib.Dec.{T, leb}
use lib.ListN.{length, take, drop}
use lib.Seq.{take_at}
use borrow.Author.Tests.{leb-true}
use Rattle.meaning.specs.Task.{Task}
use Rattle.lists.specs.Lists.{all}
use Rattle.lists.proofs.Tests.{as_true}
use Rattle.task.specs.TaskRows.{task_rows}
use Rattle.task.specs.File
use Rattle.task.specs.File.{paired, rows, sizes, sizes_of, task_of, file_of_rows, with_rows, marks_of, values_of}
use Rattle.task.specs.Check
use Rattle.task.specs.Check.{check, sizes_allowed}
use Rattle.task.specs.Answers.{answer as checked, as_sizes, number_of}
use Rattle.task.specs.declared.Sizes.{Sizes}
use Rattle.task.specs.declared.Refusal.{Refusal}
use Rattle.task.proofs.Bytes.{file_length}
use Rattle.task.proofs.Spelled.{Spelling, accepted_spelling}
use Rattle.task.proofs.Answered.{parts_spell}
use Rattle.outcome.specs.Outcome.{written, refused, area_after}
use Rattle.outcome.specs.Answers.{answer}
use Rattle.alike.specs.Alike.{Alike}
use Rattle.alike.proofs.Verdict.{same_solves, judged_alike}
use Rattle.singling.specs.Singled.{singled, singled_file, singled_rows, single_effects}
use Rattle.singling.specs.Wide.{first_wide}
use Rattle.singling.specs.Outcome.{rows_fitted, outcome_by, outcome}
use Rattle.singling.proofs.Spellable.{singled_sizes}
use Rattle.singling.proofs.SingledFile.{SingledFile, singled_file_lem}
use Rattle.singling.proofs.Wide.{none_wide}
use Rattle.single_effects.specs.Whole.{place_in, Narrow, Fitted}
use Rattle.single_effects.specs.Claim.{Delivered}
use Rattle.single_effects.proofs.Following.{followed}

-- What is written is a task with single literals that means what its source means

module _ (b area : List ℕ) (n : ℕ) where
  first_bytes : n ≡ 8 + 5 * singled_rows b → take n (singled_file b ++ drop n area) ≡ singled_file b
  first_bytes e =
      let t : Task = singled (task_of b) in
      take_at (singled_file b) (drop n area) n (file_length t.facts (length t.actions) (length t.preferences) (task_rows t) ∙ sym e)

  of_file : (z : File.Sizes) → check b ≡ Check.accepted z → singled_rows b ≤ 12000 → n ≡ 8 + 5 * singled_rows b
      → Delivered b (singled_file b ++ drop n area) n
  of_file z e few e₂ =
      let d : SingledFile b z = singled_file_lem b z e few in
      let front : take n (singled_file b ++ drop n area) ≡ singled_file b = first_bytes e₂ in
      let own : z ≡ sizes b = (accepted_spelling b z e).same in
      let alike : Alike (task_of b) (task_of (take n (singled_file b ++ drop n area))) =
      subst⁻¹ (λ (l : List ℕ). Alike (task_of b) (task_of l)) front d.meaning in
      let new : Task = task_of (take n (singled_file b ++ drop n area)) in
      record {
        accepting = ap check front ∙ d.accepting ∙ ap (λ (y : File.Sizes). Check.accepted (with_rows y (singled_rows b))) own;
        single = subst⁻¹ (λ (l : List ℕ). T (all single_effects (task_of l).actions)) front d.single;
        meaning = alike;
        judging = λ p. judged_alike (task_of b) new alike p;
        solving = λ p. same_solves (task_of b) new alike p;
        faithfully = λ s f. followed s (task_of b) new alike f;
      }

  by_wide : (z : File.Sizes) → check b ≡ Check.accepted z → (o : Option ℕ) → rows_fitted (singled_rows b) (length area) o ≡ written n
      → Delivered b (singled_file b ++ drop n area) n
  by_wide z e (some i) h = absurd (true≢false (cc))
  by_wide z e none h = go (leb (singled_rows b) 12000) refl (leb (8 + 5 * singled_rows b) (length area)) h
    where
      go : (u : Bool) → leb (singled_rows b) 12000 ≡ u → (v : Bool)
          → cond u (cond v (written (8 + 5 * singled_rows b)) (refused 9 0)) (refused 8 0) ≡ written n → Delivered b (singled_file b ++ drop n area) n
      go false p v h = absurd (true≢false (cc))
      go true p false h = absurd (true≢false (cc))
      go true p true h = of_file z e (leb-true (singled_rows b) 12000 p) (cc)

  by_answer : (x : Check.Answer) → check b ≡ x → outcome_by b (length area) x ≡ written n → Delivered b (singled_file b ++ drop n area) n
  by_answer (Check.refused k i) e h = absurd (true≢false (cc))
  by_answer (Check.accepted z) e h = by_wide z e (first_wide 0 (rows b)) h

  delivered : outcome b (length area) ≡ written n → Delivered b (singled_file b ++ drop n area) n
  unfolding outcome
  delivered h = by_answer (check b) refl h

-- what single promises of its answer and of the area
abbrev Promised : List ℕ → List ℕ → Result ℕ Refusal → List ℕ → Type 0
Promised b area r out =
    (answer r ≡ outcome b (length area))
    × ((out ≡ area_after (singled_file b) area (outcome b (length area)))
    × ((n : ℕ) → answer r ≡ written n → Delivered b out n))

promised : (b area : List ℕ) (r : Result ℕ Refusal) (out : List ℕ) → answer r ≡ outcome b (length area) → out ≡ area_after (singled_file b) area (answer r)
    → Promised b area r out
promised b area r out e f = (
  e,
  (
    f ∙ ap (area_after (singled_file b) area) e,
    λ n h. subst⁻¹ (λ (l : List ℕ). Delivered b l n) (f ∙ ap (area_after (singled_file b) area) h) (delivered b area n (sym e ∙ h)),
  ),
)

module _ (b area : List ℕ) (x : Result Sizes Refusal) (e : checked x ≡ check b) where
  -- a refusal leaves the area as it was
  refuses : (r : Result ℕ Refusal) (k i : ℕ) → answer r ≡ refused k i → refused k i ≡ outcome b (length area) → Promised b area r area
  refuses r k i p q = promised b area r area (p ∙ q) (sym (ap (area_after (singled_file b) area) p))

  pub turned_down : (y : Result ℕ Refusal) (r : Refusal) → y ≡ Err r → x ≡ Err r → Promised b area y area
  unfolding outcome
  turned_down y r p q =
      refuses y (number_of r.cause) r.place (ap answer p) (ap (outcome_by b (length area)) (sym (ap checked q) ∙ e))

  module _ (z : Sizes) (q : x ≡ Ok z) where
    accepted : check b ≡ Check.accepted (as_sizes z)
    accepted = sym e ∙ ap checked q

    on_task : rows_fitted (singled_rows b) (length area) (first_wide 0 (rows b)) ≡ outcome b (length area)
    unfolding outcome
    on_task = ap (outcome_by b (length area)) (sym accepted)

    spelling : Spelling b (as_sizes z)
    spelling = accepted_spelling b (as_sizes z) accepted

    abbrev ms : List ℕ
    ms = marks_of b z.rows

    abbrev vs : List ℕ
    vs = values_of b z.rows

    pub allowed : sizes_allowed (as_sizes z) ≡ true
    allowed = as_true (sizes_allowed (as_sizes z)) spelling.allowed

    -- what find_wide answers
    module _ (w : Result ℕ Refusal) (found : (us : List ℕ) (t : Task) → paired ms us ≡ task_rows t → place_in w ≡ first_wide 0 (task_rows t)) where
      place : place_in w ≡ first_wide 0 (rows b)
      place =
          found vs (task_of b) (parts_spell b (as_sizes z) accepted) ∙ ap (first_wide 0) (sym spelling.spelled)

      pub too_wide : (y : Result ℕ Refusal) (r : Refusal) → y ≡ Err r → w ≡ Err r → number_of r.cause ≡ 17 → Promised b area y area
      too_wide y r p h k =
          let here : some r.place ≡ first_wide 0 (rows b) = sym (ap place_in h) ∙ place in
          refuses y 17 r.place (ap answer p ∙ ap (λ (n : ℕ). refused n r.place) k)
          (ap (rows_fitted (singled_rows b) (length area)) here ∙ on_task)

      module _ (last : ℕ) (h : w ≡ Ok last) where
        nowhere : none ≡ first_wide 0 (rows b)
        nowhere = sym (ap place_in h) ∙ place

        pub narrow : Narrow ms vs (task_of b)
        narrow =
            record {
              spelled = parts_spell b (as_sizes z) accepted;
              narrow = (none_wide (task_of b)).0 (ap (first_wide 0) (sym spelling.spelled) ∙ sym nowhere);
            }

        same_sizes : with_rows (as_sizes z) (singled_rows b) ≡ sizes_of (singled (task_of b))
        same_sizes = ap (λ (y : File.Sizes). with_rows y (singled_rows b)) (sym spelling.sized) ∙ sym (singled_sizes (task_of b))

        abbrev file_of_task : Task → List ℕ
        file_of_task t = file_of_rows z.facts z.actions z.preferences (task_rows (singled t))

        file_is : file_of_task (task_of b) ≡ singled_file b
        file_is = λ i. file_of_rows (same_sizes i).facts (same_sizes i).actions (same_sizes i).preferences (task_rows (singled (task_of b)))

        pub put : (r : Result ℕ Refusal) (out : List ℕ) → ((t : Task) → Narrow ms vs t → Fitted (length (task_rows (singled t))) (file_of_task t) area r out)
            → Promised b area r out
        put r out fits =
            let f = fits (task_of b) narrow in
            promised b area r out (f.answering ∙ ap (rows_fitted (singled_rows b) (length area)) nowhere ∙ on_task)
            (f.area ∙ ap (λ (l : List ℕ). area_after l area (answer r)) file_is)
