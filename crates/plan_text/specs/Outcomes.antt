-- What reading, writing and walking a plan's text answer, and what a text is judged as: document 02, request 1.
use Rattle.std.specs.Prelude.{cond, List, [], ℕ, ◌≤◌, leb, length}
use Rattle.task.specs.Check
use Rattle.task.specs.Check.{Answer, check}
use Rattle.outcome.specs.Outcome.{Outcome, refused, fitted}
use Rattle.plan.specs.Judged.{Judged, judged}
use Rattle.plan.specs.Walked.{Walked, walked}
use Rattle.plan_lines.specs.PlanText.{text_of, Read, plan, faulty, read_plan}
use Rattle.task.specs.Limits.{MAX_STEPS}
use Rattle.task.specs.Refused.{LONG_PLAN, TEXT}

-- a plan of so many steps, written in so many bytes, for an area of so many
abbrev pub plan_fitted : ℕ → ℕ → ℕ → Outcome
plan_fitted steps bytes room = cond (leb steps MAX_STEPS) (fitted bytes room) (refused LONG_PLAN 0)

-- Reading a text

abbrev pub read_by : ℕ → Read → Outcome
read_by room (plan p) = plan_fitted (length p) (length p) room
read_by room (faulty i) = refused TEXT i

unfoldable pub read_outcome : List ℕ → ℕ → Outcome
read_outcome t room = read_by room (read_plan t)

-- an area of so many bytes has room for every plan that a text of so many may hold
abbrev pub HasRoom : ℕ → ℕ → Type 0
HasRoom bytes room = (steps : ℕ) → steps ≤ MAX_STEPS → steps ≤ bytes → steps ≤ room

-- the plan read; none from a faulty text
abbrev pub steps : Read → List ℕ
steps (plan p) = p
steps (faulty i) = []

unfoldable pub steps_in : List ℕ → List ℕ
steps_in t = steps (read_plan t)

-- Writing a plan

unfoldable pub write_outcome : List ℕ → ℕ → Outcome
write_outcome p room = plan_fitted (length p) (length (text_of p)) room

-- Walking a text

-- check's refusal, or else one of the text
abbrev pub refused_after : Answer → ℕ → ℕ → Walked
refused_after (Check.refused n i) m j = Walked.refused n i
refused_after (Check.accepted z) m j = Walked.refused m j

abbrev pub text_walked_by : List ℕ → Read → Walked
text_walked_by b (plan p) = walked b p
text_walked_by b (faulty i) = refused_after (check b) 12 i

unfoldable pub text_walked : List ℕ → List ℕ → Walked
text_walked b t = text_walked_by b (read_plan t)

-- Judging a text, which is walking it and then settling

-- check's refusal; then 12, with the faulty line; or else what judging the plan read gives
abbrev pub text_judged_by : List ℕ → Answer → Read → Judged
text_judged_by b (Check.refused n i) r = Judged.refused n i
text_judged_by b (Check.accepted z) (faulty i) = Judged.refused TEXT i
text_judged_by b (Check.accepted z) (plan p) = judged b p

unfoldable pub text_judged : List ℕ → List ℕ → Judged
text_judged b t = text_judged_by b (check b) (read_plan t)
