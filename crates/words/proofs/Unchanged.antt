-- Every operation answers as before on a file that was accepted while a cost or a weight was at most 1,000,000: document 02, request 9.
use mathlib.Core.Path.{◌≡◌, sym, ap, ◌∙◌}
use mathlib.Core.Bool.{Bool, not, cond, ◌&&◌}
use mathlib.Core.List.{List}
use Prim.Native.Nat.{ℕ, ◌*◌, ◌-◌, ◌≤◌}
use native.Mathlib.Omega.{arith}
use lib.Dec.{leb}
use lib.ListN.{length}
use borrow.Author.Tests.{le-leb}
use Rattle.lists.specs.Lists.{any, range}
use Rattle.meaning.specs.Literals.{literals}
use Rattle.task.specs.File.{Sizes, task_of}
use Rattle.task.specs.Check
use Rattle.task.specs.Check.{Answer, accepted, check}
use Rattle.task.specs.Limits.{MAX_STEPS, MAX_COST}
use Rattle.task.specs.Refused.{ARGUMENT, TEXT}
use Rattle.task.proofs.Amounts.{check_under, still_accepted}
use Rattle.plan.specs.Judged.{judged_by, judged}
use Rattle.plan.specs.Walked.{Walked, without_worth, walked}
use Rattle.settling.specs.Settled.{Settled, worth_of, settled}
use Rattle.outcome.specs.Outcome.{area_after}
use Rattle.classical.specs.Translation.{compiled}
use Rattle.translation.specs.Translated.{outcome_by, outcome}
use Rattle.pddl_text.specs.Outcomes.{outcome_by as texts_by, outcome as texts}
use Rattle.plan_lines.specs.PlanText.{Read, plan, faulty, read_plan}
use Rattle.plan_text.specs.Outcomes.{refused_after, text_walked_by, text_walked}
use Rattle.report.specs.Report.{report_of, report_on}

-- the limit before, and check with it
abbrev FORMER : ℕ
FORMER = 1000000

abbrev pub former_check : List ℕ → Answer
former_check = check_under FORMER

-- settle, whose limit on cost was that of 2,048 such steps
abbrev pub formerly_settled : List ℕ → ℕ → (ℕ → Bool) → Answer → Settled
formerly_settled b cost met (Check.refused n i) = Settled.refused n i
formerly_settled b cost met (accepted z) =
    cond (leb cost (MAX_STEPS * FORMER) && not (any met (range z.preferences (64 - z.preferences))))
    (worth_of (task_of b) cost met) (Settled.refused ARGUMENT 0)

-- walking a text
abbrev pub formerly_walked : List ℕ → Answer → Read → Walked
formerly_walked b a (plan p) = without_worth (literals (task_of b) p) (judged_by b p a)
formerly_walked b a (faulty i) = refused_after a TEXT i

-- What each operation made of that check's answer is what it answers. No other definition has the limit: the task in a file, a
-- verdict on it, its translation and its texts are functions of the file
pub record Unchanged (b : List ℕ) (z : Sizes) : Type 0 where
  pub checking : check b ≡ accepted z
  pub judging : (p : List ℕ) → judged_by b p (former_check b) ≡ judged b p
  pub walking : (p : List ℕ) → without_worth (literals (task_of b) p) (judged_by b p (former_check b)) ≡ walked b p
  pub walking_text : (t : List ℕ) → formerly_walked b (former_check b) (read_plan t) ≡ text_walked b t
  pub settling : (cost : ℕ) (met : ℕ → Bool) → cost ≤ MAX_STEPS * FORMER → formerly_settled b cost met (former_check b) ≡ settled b cost met
  pub reporting : (p : List ℕ) → report_of (task_of b) (length p) (judged_by b p (former_check b)) ≡ report_on b p
  pub translating : (room : ℕ) → outcome_by b room (former_check b) ≡ outcome b room
  pub translated : (area : List ℕ) → let n = length area in
      area_after (compiled b) area (outcome_by b n (former_check b)) ≡ area_after (compiled b) area (outcome b n)
  pub writing_pddl : (domain problem : ℕ) → texts_by b domain problem (former_check b) ≡ texts b domain problem

pub unchanged : (b : List ℕ) (z : Sizes) → former_check b ≡ accepted z → Unchanged b z
unfolding judged walked text_walked settled report_on outcome texts
unchanged b z e =
    record {
      checking = now;
      judging = λ p. ap (judged_by b p) same;
      walking = λ p. ap (λ (a : Answer). without_worth (literals (task_of b) p) (judged_by b p a)) same;
      walking_text = λ t. of_read (read_plan t);
      settling = λ cost met h. rw (e, now, le-leb cost (MAX_STEPS * FORMER) h, le-leb cost MAX_COST (omega arith));
      reporting = λ p. ap (λ (a : Answer). report_of (task_of b) (length p) (judged_by b p a)) same;
      translating = λ room. ap (outcome_by b room) same;
      translated = λ area. ap (λ (a : Answer). area_after (compiled b) area (outcome_by b (length area) a)) same;
      writing_pddl = λ domain problem. ap (texts_by b domain problem) same;
    }
  where
    now : check b ≡ accepted z
    now = still_accepted FORMER (omega arith) b z e

    same : former_check b ≡ check b
    same = e ∙ sym now

    of_read : (r : Read) → formerly_walked b (former_check b) r ≡ text_walked_by b r
    of_read (plan p) = ap (λ (a : Answer). without_worth (literals (task_of b) p) (judged_by b p a)) same
    of_read (faulty i) = ap (λ (a : Answer). refused_after a TEXT i) same
