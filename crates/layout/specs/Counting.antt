-- The preferences of a task counted, row by row.
use Rattle.std.specs.Prelude.{true, cond, List, ℕ, ◌^◌}
use Rattle.task.specs.TaskRows.{Row}
use Rattle.task.specs.File.{is_preference}
use Rattle.task.specs.Rows.{run_at}

-- more than any count of a task's preferences, for which it leaves room in 32 bits
abbrev pub MANY : ℕ
MANY = 65535

-- more than any amount of a task: the sum of two fits 64 bits, and so does their difference
abbrev pub AMPLE : ℕ
AMPLE = 2 ^ 62

-- one takes in a preference by the row that opens it
module _ {W : Type 0} (one : W → Row → W) where
  abbrev pub counting : W → Row → W
  counting w x = cond (is_preference x) (one w x) w

  -- all rows from row i on
  abbrev pub count_at : W → List ℕ → List ℕ → ℕ → W
  count_at = run_at counting (λ (m : ℕ). true) (λ (w : W) (i : ℕ). w)
