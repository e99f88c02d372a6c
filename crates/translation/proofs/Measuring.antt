-- A task measured for its translation, from what check answers.
use mathlib.Core.Path.{◌≡◌, refl, sym, ap, ◌∙◌, subst}
use mathlib.Core.Bool.{Bool, true, false, cond, ◌&&◌, true≢false}
use mathlib.Core.List.{List, []}
use Rattle.std.specs.Prelude.{Result, Ok, Err}
use Prim.Native.Nat.{ℕ, ◌+◌, ◌*◌, ◌≤◌, ◌<◌}
use native.Mathlib.Omega.{arith}
use lib.Dec.{leb}
use lib.ListN.{length}
use borrow.Author.Tests.{le-leb, lt-leb, leb-true}
use Rattle.meaning.specs.Task.{Task}
use Rattle.task.specs.TaskRows.{task_rows}
use Rattle.task.specs.File
use Rattle.task.specs.File.{sizes, task_of}
use Rattle.task.specs.Check
use Rattle.task.specs.Check.{Answer, check}
use Rattle.task.specs.Answers.{number_of, answer as checked, as_sizes}
use Rattle.task.specs.declared.Sizes.{Sizes}
use Rattle.task.specs.declared.Refusal.{Refusal}
use Rattle.task.proofs.Spelled.{accepted_spelling}
use Rattle.task.proofs.Answered.{passed_on}
use Rattle.classical.specs.Translation.{further, translated, compiled_rows}
use Rattle.writer.specs.Writer.{row_after}
use Rattle.outcome.specs.Outcome.{Outcome, fitted}
use Rattle.translated_rows.specs.Parts.{translated_rows}
use Rattle.translated_rows.specs.declared.places.Places.{Places}
use Rattle.translation.specs.Translated.{small_enough, rows_fitted, outcome_by, outcome}
use Rattle.translation.specs.Measured.{Measured, within, refused, measured_by, measured, measured_as}
use Rattle.translation.proofs.Translating.{Promised, promised, Counted, accepted, test_is, reads, ms, vs}

-- What measure answers, by what check did

abbrev by : List ℕ → Answer → Measured
by b a = measured_by b (outcome_by b 60008 a)

module _ (b : List ℕ) (x : Result Sizes Refusal) (e : checked x ≡ check b) where
  pub turned_down : (r : Refusal) → x ≡ Err r → refused (number_of r.cause) r.place ≡ measured b
  unfolding outcome measured
  turned_down = passed_on (by b) b x e

  module _ (z : Sizes) (q : x ≡ Ok z) where
    on_task : by b (Check.accepted (as_sizes z)) ≡ measured b
    unfolding outcome measured
    on_task = ap (by b) (sym (accepted b [] x e z q))

    pub too_large : (p : Places) (d : ℕ) → Counted b [] x e z q p d → small_enough (as_sizes z) d ≡ false → refused 7 0 ≡ measured b
    too_large p d f h = (rw (test_is b [] x e z q p d f false h) at on_task)

    module _ (p : Places) (d : ℕ) (f : Counted b [] x e z q p d) (h : small_enough (as_sizes z) d ≡ true) (n : ℕ)
        (counted : n ≡ row_after 0 (length (translated_rows (ms b [] x e z q) (vs b [] x e z q) z.facts))) where
      counted_rows : n ≡ row_after 0 (compiled_rows b)
      counted_rows = counted ∙ ap (λ (t : Task). row_after 0 (length (task_rows (translated t)))) (reads b [] x e z q)

      by_rows : measured_by b (rows_fitted (compiled_rows b) 60008) ≡ measured b
      by_rows = (rw (test_is b [] x e z q p d f true h) at on_task)

      pub too_many : 12000 < n → refused 8 0 ≡ measured b
      too_many l = let m : 12000 < compiled_rows b = omega (arith, counted_rows) in (rw (lt-leb (compiled_rows b) 12000 m) at by_rows)

      pub fits : n ≤ 12000 → within (as_sizes z) ≡ measured b
      fits l =
          let m : compiled_rows b ≤ 12000 = omega (arith, counted_rows) in
          let room : 8 + 5 * compiled_rows b ≤ 60008 = omega arith in
          ap within (accepted_spelling b (as_sizes z) (accepted b [] x e z q)).same
          ∙ (rw (le-leb (compiled_rows b) 12000 m, le-leb (8 + 5 * compiled_rows b) 60008 room) at by_rows)

-- What holds of a task that can be translated

pub record Translatable (b : List ℕ) (z : File.Sizes) : Type 0 where
  pub accepting : check b ≡ Check.accepted z
  pub few_facts : z.facts + 3 * z.preferences + 2 + further (task_of b).preferences ≤ 128
  pub few_actions : z.actions + 2 * z.preferences + 1 ≤ 128
  pub few_rows : compiled_rows b ≤ 12000

pub translatable : (b : List ℕ) (z : File.Sizes) → measured b ≡ within z → Translatable b z
unfolding outcome measured
translatable b z e = by_answer (check b) refl e
  where
    by_answer : (a : Answer) → check b ≡ a → by b a ≡ within z → Translatable b z
    by_answer (Check.refused n i) h e = absurd (true≢false (cc))
    by_answer (Check.accepted y) h e =
        go (leb (y.facts + 3 * y.preferences + 2 + further (task_of b).preferences) 128) refl (leb (y.actions + 2 * y.preferences + 1) 128) refl
        (leb (compiled_rows b) 12000) refl (leb (8 + 5 * compiled_rows b) 60008) e
      where
        go : (u : Bool) → leb (y.facts + 3 * y.preferences + 2 + further (task_of b).preferences) 128 ≡ u
            → (v : Bool) → leb (y.actions + 2 * y.preferences + 1) 128 ≡ v → (w : Bool) → leb (compiled_rows b) 12000 ≡ w → (x : Bool)
            → measured_by b (cond (u && v) (cond w (cond x (Outcome.written (8 + 5 * compiled_rows b)) (Outcome.refused 9 0)) (Outcome.refused 8 0)) (Outcome.refused 7 0))
            ≡ within z
            → Translatable b z
        go false p v q w r x e = absurd (true≢false (cc))
        go true p false q w r x e = absurd (true≢false (cc))
        go true p true q false r x e = absurd (true≢false (cc))
        go true p true q true r false e = absurd (true≢false (cc))
        go true p true q true r true e =
            let read : sizes b ≡ z = cc in
            let same : y ≡ z = (accepted_spelling b y h).same ∙ read in
            subst (Translatable b) same
            (record {
              accepting = h;
              few_facts = leb-true (y.facts + 3 * y.preferences + 2 + further (task_of b).preferences) 128 p;
              few_actions = leb-true (y.actions + 2 * y.preferences + 1) 128 q;
              few_rows = leb-true (compiled_rows b) 12000 r;
            })

-- 1 to 8 are refused alike with every area

pub refused_alike : (b : List ℕ) (n i : ℕ) → measured b ≡ refused n i → (room : ℕ) → outcome b room ≡ Outcome.refused n i
unfolding outcome measured
refused_alike b n i e room = by_answer (check b) e
  where
    by_rows : (x : Bool) → leb (compiled_rows b) 12000 ≡ x
        → measured_by b (cond x (fitted (8 + 5 * compiled_rows b) 60008) (Outcome.refused 8 0)) ≡ refused n i
        → cond x (fitted (8 + 5 * compiled_rows b) room) (Outcome.refused 8 0) ≡ Outcome.refused n i
    by_rows true q e =
        let fits : 8 + 5 * compiled_rows b ≤ 60008 = omega (arith, leb-true (compiled_rows b) 12000 q) in
        let f : within (sizes b) ≡ refused n i = (rw (le-leb (8 + 5 * compiled_rows b) 60008 fits) at e) in
        absurd (true≢false (cc f))
    by_rows false q e = cc

    by_sizes : (x : Bool) → measured_by b (cond x (rows_fitted (compiled_rows b) 60008) (Outcome.refused 7 0)) ≡ refused n i
        → cond x (rows_fitted (compiled_rows b) room) (Outcome.refused 7 0) ≡ Outcome.refused n i
    by_sizes true e = by_rows (leb (compiled_rows b) 12000) refl e
    by_sizes false e = cc

    by_answer : (a : Answer) → by b a ≡ refused n i → outcome_by b room a ≡ Outcome.refused n i
    by_answer (Check.refused m j) e = cc
    by_answer (Check.accepted z) e = by_sizes (small_enough z (further (task_of b).preferences)) e

-- so what a task is measured to be refused by, translate answers, and leaves the area as it was
pub not_translated : (b area : List ℕ) (r : Refusal) → measured_as (Err r) ≡ measured b → Promised b area (Err r) area
not_translated b area r e = promised b area (Err r) area (sym (refused_alike b (number_of r.cause) r.place (sym e) (length area))) refl
