-- How the opening state is read, row by row.
use Rattle.std.specs.Prelude.{List, ℕ, eqb}
use Rattle.task.specs.Marks.{START}
use Rattle.task.specs.TaskRows.{Row}
use Rattle.meaning.specs.Meaning.{State as Facts}
use Rattle.task.specs.Rows.{run_at}
use Rattle.state.specs.Member.{single, union}
use Rattle.reading.specs.Effects.{Result}

abbrev pub open_row : Facts → Row → Facts
open_row f x = union f (single x.value)

abbrev pub opened : Facts → ℕ → Result
opened f i = record { state = f; next = i }

-- the START rows from row i on, over the facts f
abbrev pub open_at : Facts → List ℕ → List ℕ → ℕ → Result
open_at = run_at open_row (λ (m : ℕ). eqb m START) opened
