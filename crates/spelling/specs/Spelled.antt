-- The spelling, row by row: each run is gathered and written by rising fact, and every other row stays.
use Rattle.std.specs.Prelude.{cond, List, [], ◌∷◌, ◌++◌, ℕ, ◌≤◌, length}
use Rattle.task.specs.TaskRows.{Row}
use Rattle.task.specs.File.{paired}
use Rattle.task.specs.Rows.{Rows, between}
use Rattle.spelling.specs.Runs.{is_listed, first_mark, second_mark, Sets, none, take_in, rising_rows}

-- where the rows so far end: in no run, or in a run of the marks a and b
pub data Place : Type 0 where
  outside : Place
  inside : ℕ → ℕ → Sets → Place

-- in the run that a row begins
abbrev pub begun : Row → Place
begun x = inside (first_mark x.mark) (second_mark x.mark) (take_in (first_mark x.mark) none x)

abbrev pub spelled_from : Place → List Row → List Row
spelled_from outside [] = []
spelled_from (inside a b s) [] = rising_rows a b s
spelled_from outside (x ∷ xs) = cond (is_listed x.mark) (spelled_from (begun x) xs) (x ∷ spelled_from outside xs)
spelled_from (inside a b s) (x ∷ xs) =
    cond (between a b x.mark) (spelled_from (inside a b (take_in a s x)) xs)
    (rising_rows a b s ++ cond (is_listed x.mark) (spelled_from (begun x) xs) (x ∷ spelled_from outside xs))

unfoldable pub spelled_rows : List Row → List Row
spelled_rows = spelled_from outside

-- rows of a file whose spelling is no longer than they are
pub record Shorter (ms vs : List ℕ) : Type 0 where
  pub rows : Rows ms vs
  pub fewer : length (spelled_rows (paired ms vs)) ≤ length ms
