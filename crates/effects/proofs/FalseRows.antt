-- The loop over the rows of a condition whose clauses are denied.
use mathlib.Core.Path.{◌≡◌, sym, ap}
use mathlib.Core.Bool.{Bool, false, ◌||◌}
use mathlib.Core.List.{List, ◌++◌}
use Prim.Native.Nat.{ℕ, ◌+◌, ◌≤◌, ◌<◌}
use lib.Dec.{eqb}
use lib.ListN.{length, get_or}
use Rattle.task.specs.Marks.{CLAUSE}
use Rattle.task.specs.TaskRows.{Row}
use Rattle.task.specs.Rows.{value_at}
use Rattle.layout.specs.Sides.{stretch}
use Rattle.writer.specs.declared.Cursor.{Cursor}
use Rattle.writer.proofs.Putting.{Onward, Kept, next_row, no_row}
use Rattle.effects.specs.Effects.{close_rows, false_row, false_rows}

-- j is the next row to read, and k stands where the next is written
pub record Falsified (b : List ℕ) (c : Cursor) (gs zs : List Row) (ms vs : List ℕ) (from to : ℕ) (out : List ℕ) (begun : Bool) (k : Cursor) (j : ℕ) : Type 0 where
  pub so_far : Kept b out k
  pub onward : Onward b c (false_rows gs zs false (stretch ms vs from to)) out k (false_rows gs zs begun (stretch ms vs j to))

module _ (ms vs : List ℕ) (j to : ℕ) (gs zs : List Row) (begun : Bool) where
  pub next_false : j < to → j < length ms
      → false_row gs zs begun (get_or ms j 0) (value_at vs j) ++ false_rows gs zs (begun || eqb (get_or ms j 0) CLAUSE) (stretch ms vs (j + 1) to)
      ≡ false_rows gs zs begun (stretch ms vs j to)
  unfolding false_rows
  next_false h l = ap (false_rows gs zs begun) (sym (next_row ms vs j to h l))

  pub last-false : to ≤ j → close_rows begun zs ≡ false_rows gs zs begun (stretch ms vs j to)
  unfolding false_rows
  last-false h = ap (false_rows gs zs begun) (sym (no_row ms vs j to h))
