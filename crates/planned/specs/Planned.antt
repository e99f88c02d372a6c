-- The file `planned`, by document 02, request 11: the plan that a search finds, as planners print it, and a last comment line with its cost.
use Rattle.std.specs.Prelude.{List, ◌++◌, ℕ, length, Result, Ok, Err}
use Rattle.task.specs.Answers.{number_of}
use Rattle.task.specs.declared.Refusal.{Refusal}
use Rattle.text.specs.Ascii.{ascii}
use Rattle.text.specs.Text.{decimal}
use Rattle.text.specs.Area
use Rattle.plan_lines.specs.PlanText.{text_of}
use Rattle.searched.specs.Searched
use Rattle.searched.specs.Searched.{Answer}
use Rattle.planned.specs.declared.Planned
use Rattle.planned.specs.declared.Planned.TheVariants

unfoldable pub planned_text : List ℕ → ℕ → List ℕ
planned_text p c = text_of p ++ (ascii "; cost = " ++ (decimal c ++ ascii "\n"))

-- a text of so many bytes, or why there is none
pub data Outcome : Type 0 where
  written : ℕ → Outcome
  no_plan : Outcome
  full : Outcome
  refused : ℕ → ℕ → Outcome

abbrev pub outcome_of : Answer → Outcome
outcome_of (Searched.found p c) = written (length (planned_text p c))
outcome_of Searched.no_plan = no_plan
outcome_of Searched.full = full
outcome_of (Searched.refused n i) = refused n i

-- an area then: what doesn't fit is dropped
abbrev pub area_after : Answer → List ℕ → List ℕ
area_after (Searched.found p c) area = Area.written (planned_text p c) 0 area
area_after Searched.no_plan area = area
area_after Searched.full area = area
area_after (Searched.refused n i) area = area

-- what the answers of `write` stand for
abbrev pub as_outcome : Result Planned.Planned Refusal → Outcome
as_outcome (Ok (TheVariants.Written n)) = written n
as_outcome (Ok TheVariants.NoPlan) = no_plan
as_outcome (Ok TheVariants.Full) = full
as_outcome (Err r) = refused (number_of r.cause) r.place
