-- A list of translated actions of the task in a file, from what measure answers.
use mathlib.Core.Path.{◌≡◌, refl, sym, ap, ◌∙◌}
use mathlib.Core.Bool.{true≢false}
use mathlib.Core.List.{List}
use Prim.Native.Nat.{ℕ, ◌≤◌, ◌<◌}
use native.Mathlib.Omega.{arith}
use lib.Dec.{ltb}
use lib.ListN.{length}
use borrow.Author.Tests.{le-leb, lt-leb}
use Rattle.lists.specs.Lists.{all}
use Rattle.lists.proofs.Tests.{as_true}
use Rattle.meaning.specs.Task.{Task}
use Rattle.task.specs.File.{Sizes, task_of, marks_of, values_of}
use Rattle.task.specs.Check
use Rattle.task.specs.Check.{check}
use Rattle.task.proofs.Spelled.{Spelling, accepted_spelling}
use Rattle.layout.specs.Actions.{actions_from}
use Rattle.layout.proofs.Parts.{parts_spelled}
use Rattle.layout.proofs.ActionRows.{as_many}
use Rattle.plan.specs.Judged.{steps_known}
use Rattle.plan.proofs.Walking.{all_known, not-all_known}
use Rattle.classical.specs.Translation.{translated_actions}
use Rattle.classical.proofs.Written.{written}
use Rattle.translation.specs.Measured.{Measured, within, measured}
use Rattle.translation.proofs.Measuring.{Translatable, translatable}
use Rattle.losses.specs.Losses.{Lost}
use Rattle.losses.specs.Following.{first, followed}
use Rattle.losses.proofs.Following.{followed_is}
use Rattle.losses.proofs.Claim.{losses_written}
use Rattle.lost_run.specs.Run.{Source}
use Rattle.lost.specs.Answered.{given, refused, answered_by, answered, Claimed}

-- a refusal of the task
pub turned_down : (b p : List ℕ) (n i : ℕ) → Measured.refused n i ≡ measured b → refused n i ≡ answered b p
unfolding answered
turned_down b p n i e = ap (answered_by b p) e

module _ (b p : List ℕ) (z : Sizes) (e : measured b ≡ within z) where
  on_task : answered_by b p (within z) ≡ answered b p
  unfolding answered
  on_task = ap (answered_by b p) (sym e)

  pub accepted : check b ≡ Check.accepted z
  accepted = (translatable b z e).accepting

  pub few_actions : translated_actions z ≤ 128
  few_actions = (translatable b z e).few_actions

  pub too_long : 2048 < length p → refused 10 0 ≡ answered b p
  too_long h = (rw (lt-leb (length p) 2048 h) at on_task)

  module _ (fits : length p ≤ 2048) where
    pub unknown : steps_known (translated_actions z) p < length p → refused 11 (steps_known (translated_actions z) p) ≡ answered b p
    unknown h = (rw (le-leb (length p) 2048 fits, not-all_known (translated_actions z) p h) at on_task)

    module _ (h : length p ≤ steps_known (translated_actions z) p) where
      abbrev ms : List ℕ
      ms = marks_of b z.rows

      abbrev vs : List ℕ
      vs = values_of b z.rows

      spelling : Spelling b z
      spelling = accepted_spelling b z accepted

      pub source : Source ms vs z.preferences (task_of b)
      source = record { spells = parts_spelled b z accepted; many = sym (ap (λ (x : Sizes). x.preferences) spelling.sized) }

      pub actions_fit : length (actions_from 0 ms) ≤ 128
      actions_fit =
          let many : length (actions_from 0 ms) ≡ z.actions = as_many (task_of b) ms vs (parts_spelled b z accepted) ∙ ap (λ (x : Sizes). x.actions) spelling.sized in
          omega (arith, many, few_actions)

      pub run_on : (v : Lost) → ((t : Task) → Source ms vs z.preferences t → v ≡ followed t (first t) 0 p) → given v ≡ answered b p
      run_on v says =
          ap given (says (task_of b) source ∙ followed_is (task_of b) spelling.formed p)
          ∙ (rw (le-leb (length p) 2048 fits, as_true (all (λ (k : ℕ). ltb k (translated_actions z)) p) (all_known (translated_actions z) p h)) at on_task)

-- The claim

pub claimed : (b p : List ℕ) (v : Lost) → answered b p ≡ given v → Claimed b
unfolding answered
claimed b p v e = go (measured b) refl e
  where
    go : (m : Measured) → measured b ≡ m → answered_by b p m ≡ given v → Claimed b
    go (Measured.refused n i) h e = absurd (true≢false (cc))
    go (within z) h e =
        let T : Translatable b z = translatable b z h in
        record {
          reading = (written b z T.accepting T.few_facts T.few_actions T.few_rows).reading;
          losses = losses_written b z T.accepting T.few_facts T.few_actions T.few_rows;
        }
