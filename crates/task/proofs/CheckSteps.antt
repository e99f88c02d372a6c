-- One row of the walk, from what the table and the test of the value say of it.
use mathlib.Core.Path.{◌≡◌, sym, ap, ◌∙◌}
use mathlib.Core.Bool.{true, false, ◌&&◌}
use mathlib.Core.List.{List}
use mathlib.Core.Option.{some}
use Prim.Native.Nat.{ℕ, ◌+◌, ◌<◌, ◌≤◌}
use native.Mathlib.Omega.{arith}
use lib.Dec.{T, eqb, eqb→eq, leb→le}
use lib.ListN.{length, get_or}
use borrow.Author.Tests.{eq-eqb, ne_eqb}
use Rattle.lists.proofs.Tests.{tests, as_true, as_false, not_both}
use Rattle.task.specs.Marks.{ACTION, EFFECT, DELETE, START}
use Rattle.task.specs.TaskRows.{row}
use Rattle.task.specs.File.{paired}
use Rattle.task.specs.Check
use Rattle.task.specs.Check.{Context, refused, follow, value_allowed, next_progress, first_progress, finish, check_rows}
use Rattle.task.specs.Rows.{value_at, between}
use Rattle.task.specs.Contexts.{number_or, numbered, leads_alike}
use Rattle.task.specs.Answers.{as_sizes, as_progress, in_context, check_from}
use Rattle.task.specs.declared.Sizes.{Sizes}
use Rattle.task.specs.declared.Progress.{Progress}
use Rattle.task.proofs.Reading.{row_at, row_end}
use Rattle.task.proofs.Numbers.{followed, refusal}
use Rattle.task.proofs.Values.{under, below_hard}

-- what holds before row i is read
pub record Reached (z : Sizes) (ms vs : List ℕ) (w : Progress) (i : ℕ) : Type 0 where
  pub rows_left : i ≤ length ms
  pub numbered_below : w.context < 20
  pub few_actions : w.actions ≤ i
  pub few_preferences : w.preferences ≤ i
  pub same : check_from (as_sizes z) ms vs i (as_progress w) ≡ check_rows (as_sizes z) 0 (paired ms vs) first_progress

module _ (z : Sizes) (ms vs : List ℕ) (w : Progress) (i : ℕ) where
  pub ended : length ms ≤ i → check_from (as_sizes z) ms vs i (as_progress w) ≡ finish (as_sizes z) i (as_progress w)
  unfolding check_rows
  ended h = rw (row_end ms vs i h)

  -- r is what the table says of row i
  module _ (h : i < length ms) (r : ℕ) (t : r ≡ number_or (follow (numbered w.context) (get_or ms i 0))) where
    pub no_mark : r ≡ 20 → check_from (as_sizes z) ms vs i (as_progress w) ≡ refused 4 i
    unfolding check_rows
    no_mark e = rw (row_at ms vs i h, refusal (follow (numbered w.context) (get_or ms i 0)) (sym e ∙ t))

    module _ (n : r ≡ 20 → ⊥) where
      found : (follow (numbered w.context) (get_or ms i 0) ≡ some (numbered r)) × (r < 20)
      found = followed (follow (numbered w.context) (get_or ms i 0)) r t n

      pub below : r < 20
      below = found.1

      pub no_value : value_allowed z.facts w.floor (row (get_or ms i 0) (value_at vs i)) ≡ false
          → check_from (as_sizes z) ms vs i (as_progress w) ≡ refused 5 i
      unfolding check_rows
      no_value e = rw (row_at ms vs i h, found.0, e)

      pub one_row : value_allowed z.facts w.floor (row (get_or ms i 0) (value_at vs i)) ≡ true
          → check_from (as_sizes z) ms vs i (as_progress w)
          ≡ check_from (as_sizes z) ms vs (i + 1) (next_progress (as_progress w) (numbered r) (row (get_or ms i 0) (value_at vs i)))
      unfolding check_rows
      one_row e = rw (row_at ms vs i h, found.0, e)

-- what holds before row i, with the rows from row `from` on all parts, and context n after them
pub record Kept (z : Sizes) (ms vs : List ℕ) (w : Progress) (from i n : ℕ) : Type 0 where
  pub rows_left : i ≤ length ms
  pub begun : from ≤ i
  pub numbered_below : n < 20
  pub same : check_from (as_sizes z) ms vs i (in_context n w) ≡ check_from (as_sizes z) ms vs from (as_progress w)

-- a row with the mark of a part changes nothing but the context
part_keeps : (w : Check.Progress) (c : Context) (m v : ℕ) → EFFECT ≤ m → m ≤ DELETE
    → next_progress w c (row m v) ≡ record { context = c; floor = w.floor; actions = w.actions; preferences = w.preferences }
part_keeps w c m v a b =
    rw (ne_eqb m START (λ e. omega arith), ne_eqb m ACTION (λ e. omega arith), under m (omega arith), below_hard m (omega arith))

-- n and l are numbers of contexts, before a part and after it: the part leads to l from context k too
module _ (n k m l : ℕ) (e : l ≡ number_or (follow (numbered k) m)) (t : T (leads_alike k n m)) where
  led : l ≡ number_or (follow (numbered n) m)
  led = e ∙ sym (eqb→eq (number_or (follow (numbered n) m)) (number_or (follow (numbered k) m)) (search tests))

  may_come : l ≡ 20 → ⊥
  may_come q = not_both (eq-eqb (number_or (follow (numbered k) m)) 20 (sym e ∙ q)) (as_false (eqb (number_or (follow (numbered k) m)) 20) (search tests))

-- row i is a part as is_plain tests it
module _ (z : Sizes) (ms vs : List ℕ) (w : Progress) (i n k l : ℕ) (h : i < length ms) (e : l ≡ number_or (follow (numbered k) (get_or ms i 0)))
    (t : T (between EFFECT DELETE (get_or ms i 0) && leads_alike k n (get_or ms i 0) && value_allowed z.facts w.floor (row (get_or ms i 0) (value_at vs i)))) where
  abbrev here : Progress
  here = record { context = n; floor = w.floor; actions = w.actions; preferences = w.preferences }

  pub part_below : l < 20
  part_below = below z ms vs here i h l (led n k (get_or ms i 0) l e (search tests)) (may_come n k (get_or ms i 0) l e (search tests))

  pub one_part : check_from (as_sizes z) ms vs i (in_context n w) ≡ check_from (as_sizes z) ms vs (i + 1) (in_context l w)
  one_part =
      one_row z ms vs here i h l (led n k (get_or ms i 0) l e (search tests)) (may_come n k (get_or ms i 0) l e (search tests)) (as_true _ (search tests))
      ∙ ap (check_from (as_sizes z) ms vs (i + 1))
      (part_keeps (in_context n w) (numbered l) (get_or ms i 0) (value_at vs i) (leb→le _ _ (search tests)) (leb→le _ _ (search tests)))
