-- The parts of an effect among the rows, and the number of its choices, row by row.
use Rattle.std.specs.Prelude.{cond, List, ℕ, ◌+◌, ◌*◌, ◌≤◌, ◌<◌, length}
use Rattle.task.specs.Marks.{CLAUSE, LACKS, ADD, DELETE}
use Rattle.task.specs.TaskRows.{Row}
use Rattle.task.specs.File.{has_mark}
use Rattle.task.specs.Rows.{between, run_at}
use Rattle.layout.specs.Sides.{end_at}
use Rattle.singling.specs.Capped.{capped}
use Rattle.single_effects.specs.declared.shapes.Tally.{Tally}
use Rattle.single_effects.specs.declared.shapes.Counted.{Counted}
use Rattle.single_effects.specs.declared.shapes.Shape.{Shape}

-- before the first clause there is one choice: nothing
abbrev pub untallied : Tally
untallied = record { choices = 1; literals = 1; clauses = 0 }

-- a clause multiplies the choices by the literals of the one before it
abbrev pub tallied : Tally → Row → Tally
tallied t x =
    cond (has_mark CLAUSE x) (record { choices = capped (t.choices * t.literals); literals = 0; clauses = t.clauses + 1 })
    (record { choices = t.choices; literals = t.literals + 1; clauses = t.clauses })

-- the condition has ended before row i
abbrev pub counted : Tally → ℕ → Counted
counted t i = record { choices = capped (t.choices * t.literals); clauses = t.clauses; next = i }

-- the condition that begins at row i
abbrev pub counted_at : List ℕ → List ℕ → ℕ → Counted
counted_at = run_at tallied (between CLAUSE LACKS) counted untallied

-- numbers that i rows can come to
pub record Few (t : Tally) (i : ℕ) : Type 0 where
  pub few_choices : t.choices ≤ 65
  pub few_literals : t.literals ≤ i + 1
  pub few_clauses : t.clauses ≤ i

abbrev pub shape_by : List ℕ → Counted → Shape
shape_by ms c =
    record { choices = c.choices; clauses = c.clauses; changes = record { from = c.next; to = end_at ADD DELETE ms c.next } }

-- the effect that row `at` opens
abbrev pub shape_at : List ℕ → List ℕ → ℕ → Shape
shape_at ms vs at = shape_by ms (counted_at ms vs (at + 1))

-- its parts stand one after the other among the rows
pub record InOrder (ms : List ℕ) (at : ℕ) (s : Shape) : Type 0 where
  pub opened : at < s.changes.from
  pub whole : s.changes.from ≤ s.changes.to
  pub inside : s.changes.to ≤ length ms
