-- What comes of writing into an area that a caller lends: document 01, 'Refused', and document 02.
use Rattle.std.specs.Prelude.{cond, List, ◌++◌, ℕ, leb, drop}
use Rattle.task.specs.Refused.{SHORT_OUTPUT}

-- the length written, or a refusal with a number and a place
pub data Outcome : Type 0 where
  written : ℕ → Outcome
  refused : ℕ → ℕ → Outcome

-- an output of so many bytes for an area of so many
abbrev pub fitted : ℕ → ℕ → Outcome
fitted bytes room = cond (leb bytes room) (written bytes) (refused SHORT_OUTPUT 0)

-- an area after bytes were written to its start, or after a refusal
abbrev pub area_after : List ℕ → List ℕ → Outcome → List ℕ
area_after bytes area (written n) = bytes ++ drop n area
area_after bytes area (refused n i) = area
