-- What is answered, from what the code has found.
use mathlib.Core.Path.{◌≡◌, refl}
use mathlib.Core.Bool.{Bool, true, false, cond, true≢false}
use mathlib.Core.List.{List}
use Prim.Native.Nat.{ℕ, ◌≤◌, ◌<◌}
use lib.Dec.{leb, ltb}
use lib.ListN.{length}
use borrow.Author.Tests.{leb-true}
use Rattle.classical.specs.Translation.{translated_actions}
use Rattle.lists.specs.Lists.{all}
use Rattle.lists.proofs.Tests.{as_true}
use Rattle.task.specs.File.{Sizes}
use Rattle.outcome.specs.Outcome.{written, refused, fitted}
use Rattle.plan.specs.Judged.{steps_known}
use Rattle.plan.proofs.Walking.{all_known, not-all_known}
use Rattle.plan_lines.specs.PlanText.{Read, plan, faulty, read_plan}
use Rattle.plan_text.specs.Outcomes.{read_by, read_outcome, steps, steps_in}
use Rattle.source.specs.Source.{below, of_known, of_text}

-- A list of steps

module _ (z : Sizes) (room : ℕ) (p : List ℕ) where
  pub unknown : steps_known (translated_actions z) p < length p → of_known z room p ≡ refused 11 (steps_known (translated_actions z) p)
  unknown h = rw (not-all_known (translated_actions z) p h)

  module _ (h : length p ≤ steps_known (translated_actions z) p) where
    known : all (λ (k : ℕ). ltb k (translated_actions z)) p ≡ true
    known = as_true (all (λ (k : ℕ). ltb k (translated_actions z)) p) (all_known (translated_actions z) p h)

    pub by_size : of_known z room p ≡ fitted (length (below z.actions p)) room
    by_size = rw known

-- A text

module _ (z : Sizes) (room : ℕ) where
  by_steps : (r : Read) (n : ℕ) → read_by 2048 r ≡ written n → of_text z room r ≡ of_known z room (steps r)
  by_steps (faulty i) n e = absurd (true≢false (cc))
  by_steps (plan p) n e = go (leb (length p) 2048) e
    where
      go : (x : Bool) → cond x (cond x (written (length p)) (refused 9 0)) (refused 10 0) ≡ written n
          → cond x (of_known z room p) (refused 10 0) ≡ of_known z room p
      go true e = refl
      go false e = absurd (true≢false (cc))

  by_refusal : (r : Read) (m j : ℕ) → read_by 2048 r ≡ refused m j → of_text z room r ≡ refused m j
  by_refusal (faulty i) m j e = e
  by_refusal (plan p) m j e = go (leb (length p) 2048) e
    where
      go : (x : Bool) → cond x (cond x (written (length p)) (refused 9 0)) (refused 10 0) ≡ refused m j
          → cond x (of_known z room p) (refused 10 0) ≡ refused m j
      go true e = absurd (true≢false (cc))
      go false e = e

  pub on_steps : (t : List ℕ) (n : ℕ) → read_outcome t 2048 ≡ written n → of_text z room (read_plan t) ≡ of_known z room (steps_in t)
  unfolding read_outcome steps_in
  on_steps t = by_steps (read_plan t)

  pub on_refusal : (t : List ℕ) (m j : ℕ) → read_outcome t 2048 ≡ refused m j → of_text z room (read_plan t) ≡ refused m j
  unfolding read_outcome
  on_refusal t = by_refusal (read_plan t)

-- the steps of a text that is read are few
few_steps : (r : Read) (n : ℕ) → read_by 2048 r ≡ written n → length (steps r) ≤ 2048
few_steps (faulty i) n e = absurd (true≢false (cc))
few_steps (plan p) n e = go (leb (length p) 2048) refl e
  where
    go : (x : Bool) → leb (length p) 2048 ≡ x → cond x (cond x (written (length p)) (refused 9 0)) (refused 10 0) ≡ written n → length p ≤ 2048
    go true h e = leb-true (length p) 2048 h
    go false h e = absurd (true≢false (cc))

pub few : (t : List ℕ) (n : ℕ) → read_outcome t 2048 ≡ written n → length (steps_in t) ≤ 2048
unfolding read_outcome steps_in
few t = few_steps (read_plan t)

-- and so are those of one that is answered
pub answered_few : (z : Sizes) (room : ℕ) (t : List ℕ) (n : ℕ) → of_text z room (read_plan t) ≡ written n → length (steps_in t) ≤ 2048
unfolding steps_in
answered_few z room t n e = go (read_plan t) e
  where
    go : (r : Read) → of_text z room r ≡ written n → length (steps r) ≤ 2048
    go (faulty i) e = absurd (true≢false (cc))
    go (plan p) e = go_on (leb (length p) 2048) refl e
      where
        go_on : (x : Bool) → leb (length p) 2048 ≡ x → cond x (of_known z room p) (refused 10 0) ≡ written n → length p ≤ 2048
        go_on true h e = leb-true (length p) 2048 h
        go_on false h e = absurd (true≢false (cc))
