-- What reading, writing and walking answer, from what the code has found.
use mathlib.Core.Path.{◌≡◌, refl, sym, ap, ◌∙◌}
use mathlib.Core.Bool.{Bool, true, false, cond, true≢false}
use mathlib.Core.List.{List}
use Rattle.std.specs.Prelude.{Result, Ok, Err}
use Prim.Native.Nat.{ℕ, ◌+◌, ◌≤◌, ◌<◌}
use native.Mathlib.Nat.{zero-add}
use native.Mathlib.Omega.{arith}
use lib.Dec.{leb}
use lib.ListN.{length, take, drop}
use lib.Seq.{take_at}
use borrow.Author.Tests.{le-leb, lt-leb, leb-true}
use Rattle.text.specs.Area.{written as put}
use Rattle.text.proofs.Writing.{written_whole}
use Rattle.task.specs.File.{task_of}
use Rattle.meaning.specs.Literals.{literals}
use Rattle.task.specs.Check
use Rattle.task.specs.Check.{Answer, check}
use Rattle.task.specs.Answers.{answer as checked}
use Rattle.task.specs.Answers.{number_of}
use Rattle.task.specs.declared.Sizes.{Sizes}
use Rattle.task.specs.declared.Refusal.{Refusal}
use Rattle.plan.specs.Judged.{judged_by, judged}
use Rattle.plan.specs.Walked.{Walked, without_worth, walked}
use Rattle.plan_lines.specs.PlanText.{lines_of, Read, plan, faulty, read_lines, read_plan}
use Rattle.outcome.specs.Outcome.{Outcome, written, refused, fitted, area_after}
use Rattle.outcome.proofs.Outcomes.{put_down}
use Rattle.plan_text.specs.Outcomes.{plan_fitted, read_by, read_outcome, steps, steps_in, refused_after, text_walked_by, text_walked}
use Rattle.plan_lines.specs.Scan.{is_opening, all, faulty_at, count, counted, begun, start, steps_from}
use Rattle.plan_lines.specs.declared.scan.Scan.{Scan}
use Rattle.plan_lines.proofs.Scanning.{steps_read}
use Rattle.plan_lines.proofs.Splitting.{by_lines}

-- An outcome and its area

pub put_whole : (bytes area out : List ℕ) (n : ℕ) (o : Outcome) → length bytes ≡ n → n ≤ length area → out ≡ put bytes 0 area → o ≡ written n
    → (written n ≡ o) × (out ≡ area_after bytes area o)
put_whole bytes area out n o e h w y = put_down bytes area out n o e (w ∙ written_whole bytes area (omega arith)) y

-- what was written at the front of an area that has room for it
pub front_put : (bytes area : List ℕ) (n : ℕ) → length bytes ≡ n → n ≤ length area → take n (put bytes 0 area) ≡ bytes
front_put bytes area n e h = ap (take n) (written_whole bytes area (omega arith)) ∙ take_at bytes (drop (length bytes) area) n e

-- Room

module _ (k bytes room : ℕ) where
  pub too_many : 2048 < k → plan_fitted k bytes room ≡ refused 10 0
  too_many h = rw (lt-leb k 2048 h)

  pub few_enough : k ≤ 2048 → plan_fitted k bytes room ≡ fitted bytes room
  few_enough h = rw (le-leb k 2048 h)

  pub roomy : k ≤ 2048 → bytes ≤ room → plan_fitted k bytes room ≡ written bytes
  roomy h l = rw (le-leb k 2048 h, le-leb bytes room l)

  pub fits : (n : ℕ) → plan_fitted k bytes room ≡ written n → (k ≤ 2048) × (bytes ≡ n)
  fits n e = go (leb k 2048) refl (leb bytes room) e
    where
      go : (x : Bool) → leb k 2048 ≡ x → (y : Bool) → cond x (cond y (written bytes) (refused 9 0)) (refused 10 0) ≡ written n → (k ≤ 2048) × (bytes ≡ n)
      go true h true e = (leb-true k 2048 h, cc)
      go true h false e = absurd (true≢false (cc))
      go false h y e = absurd (true≢false (cc))

-- Reading

-- a plan of k steps was read
pub record Counted (r : Read) (k : ℕ) : Type 0 where
  pub its_plan : List ℕ
  pub is : r ≡ plan its_plan
  pub size : length its_plan ≡ k

all_counted : (r : Read) (k : ℕ) → all k ≡ count 0 r → Counted r k
all_counted (plan p) k e = record { its_plan = p; is = refl; size = cc (zero-add (length p)) }
all_counted (faulty i) k e = absurd (true≢false (cc))

stopped_at : (r : Read) (i : ℕ) → faulty_at i ≡ count 0 r → r ≡ faulty i
stopped_at (plan p) i e = cc
stopped_at (faulty j) i e = cc

module _ (t : List ℕ) (room : ℕ) where
  pub too_long : 65536 < length t → read_outcome t room ≡ refused 12 0
  unfolding read_outcome read_plan
  too_long h = rw (lt-leb (length t) 65536 h)

  module _ (short : length t ≤ 65536) where
    module _ (s : Scan) (e : counted s ≡ count 0 (read_lines 0 (lines_of t))) where
      pub faulty_line : is_opening s.mode ≡ false → read_outcome t room ≡ refused 12 s.line
      unfolding read_outcome
      faulty_line h =
          let c : faulty_at s.line ≡ count 0 (read_lines 0 (lines_of t)) = (rw h at e) in
          ap (read_by room) (by_lines t short ∙ stopped_at (read_lines 0 (lines_of t)) s.line c)

      module _ (h : is_opening s.mode ≡ true) where
        found : Counted (read_lines 0 (lines_of t)) s.steps
        found = let c : all s.steps ≡ count 0 (read_lines 0 (lines_of t)) = (rw h at e) in all_counted (read_lines 0 (lines_of t)) s.steps c

        pub by_size : read_outcome t room ≡ plan_fitted s.steps s.steps room
        unfolding read_outcome
        by_size = ap (read_by room) (by_lines t short ∙ found.is) ∙ ap (λ (k : ℕ). plan_fitted k k room) found.size

        pub steps_found : (steps_from start t ≡ steps_in t) × (length (steps_in t) ≡ s.steps)
        unfolding steps_in
        steps_found =
            let p : steps (read_plan t) ≡ found.its_plan = ap steps (by_lines t short ∙ found.is) in
            (steps_read t found.its_plan found.is ∙ sym p, ap length p ∙ found.size)

-- the place of a faulty line
pub line_below : (t : List ℕ) (s : Scan) → length t ≤ 65536 → s.line + begun s.mode ≤ length t → is_opening s.mode ≡ false → s.line < 65536
line_below t s short h e = let l : s.line + 1 ≤ length t = (rw e at h) in omega arith

-- Walking

size_read : (r : Read) (room n : ℕ) → read_by room r ≡ written n → length (steps r) ≡ n
size_read (plan p) room n e = (fits (length p) (length p) room n e).1
size_read (faulty i) room n e = absurd (true≢false (cc))

-- an area that was read into begins with the plan
pub at_front : (t area out : List ℕ) (room n : ℕ) → read_outcome t room ≡ written n
    → out ≡ area_after (steps_in t) area (read_outcome t room) → take n out ≡ steps_in t
unfolding read_outcome steps_in
at_front t area out room n e w =
    ap (take n) (w ∙ ap (area_after (steps (read_plan t)) area) e) ∙ take_at (steps (read_plan t)) (drop n area) n (size_read (read_plan t) room n e)

module _ (b : List ℕ) where
  -- walk refuses a plan that is too long by the same number
  over_long : (p : List ℕ) → leb (length p) 2048 ≡ false → (a : Answer) → refused_after a 10 0 ≡ without_worth (literals (task_of b) p) (judged_by b p a)
  over_long p l (Check.refused n i) = refl
  over_long p l (Check.accepted z) = rw l

  on_refusal : (r : Read) (m j : ℕ) → read_by 2048 r ≡ refused m j → refused_after (check b) m j ≡ text_walked_by b r
  unfolding judged walked
  on_refusal (faulty i) m j e = cc
  on_refusal (plan p) m j e = go (leb (length p) 2048) refl e
    where
      go : (x : Bool) → leb (length p) 2048 ≡ x → cond x (cond x (written (length p)) (refused 9 0)) (refused 10 0) ≡ refused m j
          → refused_after (check b) m j ≡ walked b p
      go true l e = absurd (true≢false (cc))
      go false l e = let ten : refused_after (check b) m j ≡ refused_after (check b) 10 0 = cc in ten ∙ over_long p l (check b)

  on_plan : (r : Read) (n : ℕ) → read_by 2048 r ≡ written n → walked b (steps r) ≡ text_walked_by b r
  on_plan (plan p) n e = refl
  on_plan (faulty i) n e = absurd (true≢false (cc))

  text_refused : (t : List ℕ) (m j : ℕ) → read_outcome t 2048 ≡ refused m j → refused_after (check b) m j ≡ text_walked b t
  unfolding read_outcome text_walked
  text_refused t m j e = on_refusal (read_plan t) m j e

  pub text_walked_lem : (t : List ℕ) (n : ℕ) → read_outcome t 2048 ≡ written n → walked b (steps_in t) ≡ text_walked b t
  unfolding read_outcome text_walked steps_in
  text_walked_lem t n e = on_plan (read_plan t) n e

  -- check's own refusal comes first
  pub file_refused : (t : List ℕ) (m j : ℕ) → read_outcome t 2048 ≡ refused m j → {x : Result Sizes Refusal} → checked x ≡ check b → {r : Refusal} → x ≡ Err r
      → Walked.refused (number_of r.cause) r.place ≡ text_walked b t
  file_refused t m j h e q = ap (λ (a : Answer). refused_after a m j) (sym (ap checked q) ∙ e) ∙ text_refused t m j h

  pub text_alone : (t : List ℕ) (m j : ℕ) → read_outcome t 2048 ≡ refused m j → {x : Result Sizes Refusal} → checked x ≡ check b → {z : Sizes} → x ≡ Ok z
      → Walked.refused m j ≡ text_walked b t
  text_alone t m j h e q = ap (λ (a : Answer). refused_after a m j) (sym (ap checked q) ∙ e) ∙ text_refused t m j h
