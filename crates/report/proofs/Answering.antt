-- The text from the rows, and the text of the task that they spell; what comes of writing it.
use mathlib.Core.Path.{◌≡◌, refl, ap, ◌∙◌, subst}
use mathlib.Core.Bool.{true≢false}
use mathlib.Core.List.{List}
use Prim.Native.Nat.{ℕ}
use lib.ListN.{length}
use Rattle.meaning.specs.Task.{Task}
use Rattle.task.specs.TaskRows.{Row, task_rows}
use Rattle.task.specs.File.{Sizes, task_of}
use Rattle.task.specs.Check.{check, accepted}
use Rattle.task.specs.Check
use Rattle.task.proofs.Checking.{parts_of}
use Rattle.task.proofs.Answered.{parts_spell}
use Rattle.plan.specs.Judged.{Judged, judged}
use Rattle.plan.specs.Walked.{Walk, Walked, given, without_worth, walked}
use Rattle.plan.specs.ThenSettled.{with_amounts, then_settle}
use Rattle.meaning.specs.Literals.{literals}
use Rattle.plan.proofs.ThenSettled.{walk_then_settle}
use Rattle.text.specs.Area.{Filled}
use Rattle.text.proofs.Writing.{from_start, no_bytes}
use Rattle.outcome.specs.Outcome.{refused, fitted}
use Rattle.report.specs.Report.{report_of, report_on, report_by, report_outcome, WalkedTo}
use Rattle.report.specs.Rows.{report_of_rows}
use Rattle.report.proofs.Spelled.{task_report}

spelled_report : (t : Task) (xs : List Row) → xs ≡ task_rows t → (n : ℕ) (j : Judged) → report_of_rows xs n j ≡ report_of t n j
spelled_report t xs e n j = ap (λ (ys : List Row). report_of_rows ys n j) e ∙ task_report t n j

-- The outcome by what walk gave

as_given : (bytes room : ℕ) (j : Judged) (w : Walk) (looked seen : ℕ) → given w looked ≡ without_worth seen j → report_by bytes room j ≡ fitted bytes room
as_given bytes room (Judged.given v) w looked seen e = refl
as_given bytes room (Judged.refused n i) w looked seen e = absurd (true≢false (cc))

as_refused : (bytes room : ℕ) (j : Judged) (n i seen : ℕ) → Walked.refused n i ≡ without_worth seen j → report_by bytes room j ≡ refused n i
as_refused bytes room (Judged.given v) n i seen e = absurd (true≢false (cc))
as_refused bytes room (Judged.refused m k) n i seen e = cc

-- For a caller that has walked the plan p on the file b

module _ (b p : List ℕ) where
  pub not-walked : (room n i : ℕ) → Walked.refused n i ≡ walked b p → report_outcome b p room ≡ refused n i
  unfolding walked report_outcome
  not-walked room n i q = as_refused (length (report_on b p)) room (judged b p) n i (literals (task_of b) p) q

  module _ (w : Walk) (q : WalkedTo b p w) where
    -- the text, where the two parts of the file are lent
    pub on_accepted : (z : Sizes) → check b ≡ accepted z → (out : List ℕ) (r : ℕ) (out' : List ℕ)
        → Filled out (report_of_rows (parts_of b z) (length p) (with_amounts b w)) r out'
        → Filled out (report_on b p) r out'
    unfolding report_on
    on_accepted z h out r out' =
        subst (λ (l : List ℕ). Filled out l r out')
        (spelled_report (task_of b) _ (parts_spell b z h) (length p) (with_amounts b w)
        ∙ ap (report_of (task_of b) (length p)) (ap (then_settle b) q.1 ∙ walk_then_settle b p))

    pub by_length : (room : ℕ) → report_outcome b p room ≡ fitted (length (report_on b p)) room
    unfolding walked report_outcome
    by_length room = as_given (length (report_on b p)) room (judged b p) w q.0 (literals (task_of b) p) q.1

  -- a refused file has no text
  pub on_refused : (n i : ℕ) → check b ≡ Check.refused n i → (out : List ℕ) → Filled out (report_on b p) 0 out
  unfolding report_on judged
  on_refused n i h out = rw h (from_start (no_bytes out 0))
