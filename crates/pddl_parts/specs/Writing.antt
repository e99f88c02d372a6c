-- What a function that writes as it reads asks and gives: the text of what the rows spell, and the row after them.
use Rattle.std.specs.Prelude.{◌≡◌, List, ◌++◌, ℕ, ◌+◌, ◌*◌, ◌-◌, ◌^◌, ◌≤◌, ◌<◌, length, drop}
use Rattle.task.specs.TaskRows.{Row}
use Rattle.task.specs.File.{paired}
use Rattle.task.specs.Rows.{Stops}
use Rattle.text.specs.Area.{Wrote}
use Rattle.pddl_parts.specs.Pieces.{Piece}
use Rattle.pddl_parts.specs.declared.conditions.Emitted.{Emitted}

-- the rows from row `from` on
pub record Stretch : Type 0 where
  pub marks : List ℕ
  pub values : List ℕ
  pub from : ℕ

abbrev pub stretch : List ℕ → List ℕ → ℕ → Stretch
stretch ms vs from = record { marks = ms; values = vs; from = from }

abbrev pub rows_in : Stretch → List Row
rows_in s = drop s.from (paired s.marks s.values)

-- row `from` or the end is reached, and no place overflows where each row to come adds at most so many bytes
pub record Reading (ms vs : List ℕ) (from at each : ℕ) : Type 0 where
  pub within : from ≤ length ms
  pub room : at + each * (length ms - from) < 2 ^ 64

-- the rows spell some a, and none that would belong to it follows
abbrev pub Spells : {A : Type 0} → Piece A → Stretch → Type 0
Spells {A} p s = (a : A) × (xs : List Row) × (rows_in s ≡ p.rows a ++ xs) × Stops p.goes xs

-- for each such a: its text, from place `at` on, and the row after its own
pub record PieceAnswer {A : Type 0} (p : Piece A) (s : Stretch) (b : List ℕ) (at : ℕ) (r : Emitted) (out : List ℕ) : Type 0 where
  pub puts : (a : A) (xs : List Row) → rows_in s ≡ p.rows a ++ xs → Stops p.goes xs
      → Wrote b at (p.text a) r.at out × (r.next ≡ s.from + length (p.rows a))
