-- The preferences of a task counted row by row: the rows that open one count, and no others.
use mathlib.Core.Path.{◌≡◌, refl, sym, ap, ◌∙◌}
use mathlib.Core.Bool.{Bool, true, cond}
use mathlib.Core.List.{List, [], ◌∷◌, append-nil}
use Prim.Native.Nat.{ℕ, ◌+◌}
use lib.Dec.{T}
use lib.ListN.{length, drop}
use Rattle.lists.specs.Lists.{all, concat_map}
use Rattle.meaning.specs.Task.{Preference, Task}
use Rattle.task.proofs.RoundTrip.{opening_row}
use Rattle.task.specs.TaskRows.{Row, preference_rows, task_rows}
use Rattle.task.specs.File.{paired, is_preference}
use Rattle.task.specs.Rows.{run, run_at}
use Rattle.lists.proofs.Tests.{tests, none_of, without, as_true, as_false}
use Rattle.task.proofs.Passing.{side_rows, sides_pass}
use Rattle.task.proofs.Positions.{kind_preference, front, front_no_preference}
use Rattle.task.proofs.Reading.{passes, fold, fold-append, run-stop, run_through}
use Rattle.layout.specs.Counting.{counting, count_at}

all_go : (xs : List Row) → T (all (passes (λ (m : ℕ). true)) xs)
all_go [] = tt
all_go (x ∷ xs) = all_go xs

module _ {W : Type 0} (one : W → Row → W) where
  others : (w : W) (xs : List Row) → T (none_of is_preference xs) → fold (counting one) w xs ≡ w
  others w [] h = refl
  others w (x ∷ xs) h = rw (as_false (is_preference x) (search tests)) (others w xs (search tests))

  abbrev pub count_all : W → List Preference → W
  count_all w [] = w
  count_all w (q ∷ qs) = count_all (one w (opening_row q)) qs

  all_counted : (w : W) (qs : List Preference) → fold (counting one) w (concat_map preference_rows qs) ≡ count_all w qs
  all_counted w [] = refl
  all_counted w (q ∷ qs) =
      let w' : W = one w (opening_row q) in
      fold-append (counting one) w (preference_rows q) (concat_map preference_rows qs)
      ∙ ap (λ (u : W). fold (counting one) u (concat_map preference_rows qs))
      (ap (λ (b : Bool). fold (counting one) (cond b w' w) (side_rows q))
      (as_true (is_preference (opening_row q)) (kind_preference q.hard q.kind q.weight))
      ∙ others w' (side_rows q) (sides_pass (without is_preference) (λ v. tt) (λ v. tt) (λ v. tt) (λ v. tt) (λ v. tt) q))
      ∙ all_counted w' qs

  rows_folded : (w : W) (ms vs : List ℕ) (at : ℕ) (ys : List Row) → drop at (paired ms vs) ≡ ys → count_at one w ms vs at ≡ fold (counting one) w ys
  unfolding run_at
  rows_folded w ms vs at ys e =
      let go : ℕ → Bool = λ m. true in
      let stop : W → ℕ → W = λ u i. u in
      ap (run (counting one) go stop w at) (e ∙ sym (append-nil ys))
      ∙ run_through (counting one) go stop w at ys [] (all_go ys)
      ∙ run-stop (counting one) go stop (fold (counting one) w ys) (at + length ys) [] tt

  -- rows of preferences alone
  pub preferences_counted : (w : W) (ms vs : List ℕ) (at : ℕ) (qs : List Preference) → drop at (paired ms vs) ≡ concat_map preference_rows qs
      → count_at one w ms vs at ≡ count_all w qs
  preferences_counted w ms vs at qs e = rows_folded w ms vs at (concat_map preference_rows qs) e ∙ all_counted w qs

  -- all rows of a task
  pub task_counted : (w : W) (ms vs : List ℕ) (t : Task) → paired ms vs ≡ task_rows t → count_at one w ms vs 0 ≡ count_all w t.preferences
  task_counted w ms vs t e =
      rows_folded w ms vs 0 (task_rows t) e
      ∙ fold-append (counting one) w (front t) (concat_map preference_rows t.preferences)
      ∙ ap (λ (u : W). fold (counting one) u (concat_map preference_rows t.preferences)) (others w (front t) (front_no_preference t))
      ∙ all_counted w t.preferences
