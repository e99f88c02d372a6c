-- "Read such text and judge it": walking a text and then settling judges the plan read from it, for every file and every text.
use mathlib.Core.Path.{◌≡◌, refl, ap, ◌∙◌}
use mathlib.Core.List.{List}
use Prim.Native.Nat.{ℕ}
use Rattle.task.specs.Check
use Rattle.task.specs.Check.{Answer, check}
use Rattle.plan.specs.Judged.{judged_by, judged}
use Rattle.plan.specs.ThenSettled.{then_settle}
use Rattle.plan.proofs.ThenSettled.{walk_then_settle}
use Rattle.plan_lines.specs.PlanText.{Read, plan, faulty, read_plan}
use Rattle.plan_text.specs.Outcomes.{refused_after, text_walked_by, text_walked, text_judged_by, text_judged}

module _ (b : List ℕ) where
  -- a faulty line is refused after check's refusals
  on_fault : (i : ℕ) (a : Answer) → then_settle b (refused_after a 12 i) ≡ text_judged_by b a (faulty i)
  on_fault i (Check.refused n j) = refl
  on_fault i (Check.accepted z) = refl

  -- judging a plan begins with check's refusals
  on_plan : (p : List ℕ) (a : Answer) → check b ≡ a → judged b p ≡ text_judged_by b a (plan p)
  unfolding judged
  on_plan p (Check.refused n i) h = ap (judged_by b p) h
  on_plan p (Check.accepted z) h = refl

  by_reading : (r : Read) → then_settle b (text_walked_by b r) ≡ text_judged_by b (check b) r
  by_reading (faulty i) = on_fault i (check b)
  by_reading (plan p) = walk_then_settle b p ∙ on_plan p (check b) refl

pub walk_text_then_settle : (b t : List ℕ) → then_settle b (text_walked b t) ≡ text_judged b t
unfolding text_walked text_judged
walk_text_then_settle b t = by_reading b (read_plan t)
