-- Whether the task in a file can be translated: what translate answers where no area is too short.
use Rattle.std.specs.Prelude.{◌≡◌, true, List, ℕ, Result, Ok, Err, drop}
use Rattle.task.specs.File.{Sizes, sizes, paired, marks_of, values_of}
use Rattle.task.specs.Check.{accepted, check}
use Rattle.task.specs.Answers.{as_sizes, number_of}
use Rattle.task.specs.declared.Sizes.{Sizes as Given}
use Rattle.task.specs.declared.Refusal.{Refusal}
use Rattle.task.specs.Limits.{MAX_FILE}
use Rattle.outcome.specs.Outcome.{Outcome}
use Rattle.translated_rows.specs.Further.{further_rows}
use Rattle.translated_rows.specs.Parts.{Found}
use Rattle.translation.specs.Translated.{small_enough, outcome}
use Rattle.translation.specs.Whole.{Counted}
use Rattle.translation.specs.declared.measures.Measures.{Measures}

-- it can, and has these sizes; or it is refused by a number, with a place
pub data Measured : Type 0 where
  within : Sizes → Measured
  refused : ℕ → ℕ → Measured

abbrev pub measured_by : List ℕ → Outcome → Measured
measured_by b (Outcome.written n) = within (sizes b)
measured_by b (Outcome.refused n i) = refused n i

unfoldable pub measured : List ℕ → Measured
measured b = measured_by b (outcome b MAX_FILE)

-- what the answers of `measure` stand for
abbrev pub measured_as : Result Given Refusal → Measured
measured_as (Ok z) = within (as_sizes z)
measured_as (Err r) = refused (number_of r.cause) r.place

-- What is taken of a task that can be translated

-- its sizes, or the refusal
abbrev pub sizes_in : Result Measures Refusal → Result Given Refusal
sizes_in (Ok m) = Ok m.sizes
sizes_in (Err r) = Err r

-- m is what the task in b measures
pub record Taken (b : List ℕ) (m : Measures) : Type 0 where
  pub accepting : check b ≡ accepted (as_sizes m.sizes)
  pub found : Found (marks_of b m.sizes.rows) m.places
  pub further_are : m.further ≡ further_rows (drop m.places.to (paired (marks_of b m.sizes.rows) (values_of b m.sizes.rows)))
  pub small : small_enough (as_sizes m.sizes) m.further ≡ true
  pub counted : Counted (marks_of b m.sizes.rows) (values_of b m.sizes.rows) m
