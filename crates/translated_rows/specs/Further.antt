-- How many facts D1, D2, … the preferences have that rows spell.
use Rattle.std.specs.Prelude.{cond, ◌||◌, List, map, ℕ, ◌+◌, ◌%◌}
use Rattle.lists.specs.Lists.{sum}
use Rattle.task.specs.Marks.{WITHIN, STEPS, HARD}
use Rattle.task.specs.TaskRows.{Row}
use Rattle.task.specs.File.{has_mark}
use Rattle.task.specs.Limits.{DEADLINES}

-- the steps, and one more in within, hard or soft
abbrev pub further_row : Row → ℕ
further_row x = cond (has_mark STEPS x) (x.value % DEADLINES) (cond (has_mark WITHIN x || has_mark (WITHIN + HARD) x) 1 0)

abbrev pub further_rows : List Row → ℕ
further_rows xs = sum (map further_row xs)
