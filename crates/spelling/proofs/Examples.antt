-- A loose spelling, computed: row by row, and its outcome.
use mathlib.Core.Path.{◌≡◌, refl}
use mathlib.Core.Bool.{true, false}
use mathlib.Core.List.{[], ◌∷◌}
use Rattle.lists.specs.Lists.{singleton}
use Rattle.meaning.specs.Task.{Task, Clause, sometime_before}
use Rattle.task.specs.TaskRows.{task_rows}
use Rattle.task.specs.File.{file_of}
use Rattle.task.specs.Check.{check, check_rows}
use Rattle.outcome.specs.Outcome.{written, refused}
use Rattle.canonical.specs.Canonical.{literal, canonical}
use Rattle.spelling.specs.Runs.{rising_rows}
use Rattle.spelling.specs.Spelled.{spelled_rows}
use Rattle.spelling.specs.Outcome.{outcome}

-- a literal stands twice, and so does an added fact; fact 2 is added and deleted
abbrev loose : Task
loose =
    let c : Clause = literal false 2 ∷ literal true 1 ∷ literal true 2 ∷ literal false 2 ∷ [] in
    record {
      facts = 3;
      start = 0 ∷ 2 ∷ [];
      goal = c ∷ singleton (literal true 0) ∷ c ∷ [];
      actions = singleton (record { cost = 7; precondition = singleton c; effects = singleton (record { condition = singleton c; adds = 2 ∷ 0 ∷ 2 ∷ []; deletes = 2 ∷ 1 ∷ [] }) });
      preferences = singleton (record { kind = sometime_before; hard = false; weight = 5; first = singleton c; second = singleton c });
    }

rows_spelled : spelled_rows (task_rows loose) ≡ task_rows (canonical loose)
unfolding spelled_rows rising_rows canonical
rows_spelled = refl

-- its 44 rows become 37
loose_written : (outcome (file_of loose) 193 ≡ written 193) × (outcome (file_of loose) 192 ≡ refused 9 0)
unfolding canonical outcome check check_rows
loose_written = (refl, refl)
