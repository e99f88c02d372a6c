-- Rows put into a file of so many rows, one after the other, and counted up to 12,001.
use Rattle.std.specs.Prelude.{◌≡◌, cond, List, [], ◌∷◌, ◌++◌, ℕ, ◌+◌, ◌*◌, ◌-◌, ◌≤◌, min, ltb, set, length}
use Rattle.std.proofs.lemmas.List.Edits.{sets}
use Rattle.task.specs.TaskRows.{Row}
use Rattle.task.specs.File.{bytes16, bytes32}
use Rattle.layout.specs.declared.sides.Span.{Span}
use Rattle.writer.specs.declared.Cursor.{Cursor}
use Rattle.task.specs.Limits.{MAX_ROWS}

-- one row more than a file may have: a count that has come this far stays
abbrev pub OVERFULL : ℕ
OVERFULL = MAX_ROWS + 1

-- the row after m rows that begin at row i
abbrev pub row_after : ℕ → ℕ → ℕ
row_after i m = i + min m (OVERFULL - i)

-- the area has room for the rows that the cursor says
pub record Room (c : Cursor) (out : List ℕ) : Type 0 where
  pub few : c.rows ≤ MAX_ROWS
  pub long : 8 + 5 * c.rows ≤ length out

-- rows that are written already
pub record Earlier (c : Cursor) (s : Span) : Type 0 where
  pub ordered : s.from ≤ s.to
  pub before : s.to ≤ c.next

-- the mark of row i stands at 8 + i, the four bytes of its value from 8 + n + 4 i on; from row n on nothing is put
unfoldable pub put_row : List ℕ → ℕ → ℕ → ℕ → ℕ → List ℕ
put_row b n i m v = cond (ltb i n) (sets (set b (8 + i) m) (8 + n + 4 * i) (bytes32 v)) b

-- the rows xs, from row i on
abbrev pub put_rows : List ℕ → ℕ → ℕ → List Row → List ℕ
put_rows b n i [] = b
put_rows b n i (x ∷ xs) = put_rows (put_row b n i x.mark x.value) n (i + 1) xs

-- the rows xs were put into b where c stands: r stands after them, and out, which has room for the same rows, is the file then
pub record Wrote (b : List ℕ) (c : Cursor) (xs : List Row) (r : Cursor) (out : List ℕ) : Type 0 where
  pub room : Room r out
  pub same : r.rows ≡ c.rows
  pub next : r.next ≡ row_after c.next (length xs)
  pub file : out ≡ put_rows b c.rows c.next xs

-- the rows xs stand where s says in a file of n rows: to put them there again changes nothing
pub record Standing (b : List ℕ) (n : ℕ) (s : Span) (xs : List Row) : Type 0 where
  pub counted : s.to ≡ row_after s.from (length xs)
  pub there : put_rows b n s.from xs ≡ b

-- the four sizes of a file
abbrev pub header : ℕ → ℕ → ℕ → ℕ → List ℕ
header F A P n = bytes16 F ++ bytes16 A ++ bytes16 P ++ bytes16 n
