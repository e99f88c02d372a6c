-- The lines that a loop over the rows writes.
use mathlib.Core.Path.{◌≡◌, refl, sym, ap, ◌∙◌}
use mathlib.Core.Bool.{Bool}
use mathlib.Core.List.{List, [], ◌++◌, append_assoc, append-nil}
use Prim.Native.Nat.{ℕ, ◌+◌, ◌*◌, ◌<◌, ◌≤◌}
use native.Mathlib.Omega.{arith}
use lib.ListN.{length, get_or, drop}
use Rattle.task.specs.TaskRows.{Row, row}
use Rattle.task.specs.File.{paired, is_preference}
use Rattle.task.specs.Check.{count}
use Rattle.task.specs.Rows.{value_at}
use Rattle.task.proofs.Reading.{row_at, row_end}
use Rattle.text.specs.Area.{Wrote}
use Rattle.text.proofs.Writing.{then, no_bytes}
use Rattle.report.specs.Rows.{row_line, row_lines}

-- The rows one after the other

-- the lines of the first i rows are written: p is the place after them, and k the number of the next preference
pub record Listed (met : ℕ → Bool) (ms vs b : List ℕ) (at : ℕ) (out : List ℕ) (p k i : ℕ) : Type 0 where
  pub within : i ≤ length ms
  pub counted : k ≤ i
  pub near : p ≤ at + 70 * i
  pub lines : List ℕ
  pub wrote : Wrote b at lines p out
  pub rest : lines ++ row_lines met k (drop i (paired ms vs)) ≡ row_lines met 0 (paired ms vs)

module _ (met : ℕ → Bool) (ms vs b : List ℕ) (at : ℕ) where
  pub no_rows : Listed met ms vs b at b at 0 0
  no_rows = record { within = omega arith; counted = omega arith; near = omega arith; lines = []; wrote = no_bytes b at; rest = refl }

  module _ (out : List ℕ) (p k i : ℕ) (l : Listed met ms vs b at out p k i) where
    pub next_row : (q j : ℕ) (out' : List ℕ) → i < length ms
        → Wrote out p (row_line met k (row (get_or ms i 0) (value_at vs i))) q out'
        → j ≡ count (is_preference (row (get_or ms i 0) (value_at vs i))) k → q ≤ p + 70 → j ≤ k + 1
        → Listed met ms vs b at out' q j (i + 1)
    unfolding row_lines
    next_row q j out' h w e n s =
        let x : Row = row (get_or ms i 0) (value_at vs i) in
        record {
          within = omega arith;
          counted = omega (arith, l.counted);
          near = omega (arith, l.near);
          lines = l.lines ++ row_line met k x;
          wrote = then l.wrote w;
          rest =
              rw (e, append_assoc l.lines (row_line met k x) (row_lines met (count (is_preference x) k) (drop (i + 1) (paired ms vs))))
              (ap (λ (xs : List Row). l.lines ++ row_lines met k xs) (sym (row_at ms vs i h)) ∙ l.rest);
        }

    pub all_rows : length ms ≤ i → Wrote b at (row_lines met 0 (paired ms vs)) p out × (p ≤ at + 70 * length ms)
    unfolding row_lines
    all_rows h =
        let e : l.lines ≡ row_lines met 0 (paired ms vs) =
        sym (append-nil l.lines) ∙ ap (λ (xs : List Row). l.lines ++ row_lines met k xs) (sym (row_end ms vs i h)) ∙ l.rest in
        (rw (← e) l.wrote, omega (arith, l.near, l.within))
