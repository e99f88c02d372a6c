-- The facts D1, D2, … counted over the rows of a task are those of its preferences.
use mathlib.Core.Path.{◌≡◌, refl, sym, ap}
use mathlib.Core.Bool.{Bool, true, false, not, ◌&&◌, ◌||◌}
use mathlib.Core.List.{List, [], ◌∷◌, ◌++◌}
use Prim.Native.Nat.{ℕ, ◌+◌, ◌*◌, ◌≤◌, ◌<◌}
use native.Mathlib.Nat.{zero-add}
use native.Mathlib.Omega.{arith}
use lib.Dec.{T, leb→le}
use lib.ListN.{length, drop, get_or}
use Rattle.lists.specs.Lists.{all, concat_map}
use Rattle.task.specs.Marks.{WITHIN, STEPS, HARD}
use Rattle.meaning.specs.Task.{Kind, always, sometime, at_end, at_most_once, sometime_before, sometime_after, within, always_within, Preference, Task}
use Rattle.task.specs.TaskRows.{Row, row}
use Rattle.task.specs.TaskRows.{opening_mark, steps_rows, preference_rows}
use Rattle.task.specs.File.{has_mark, paired}
use Rattle.task.specs.Spelling.{kind_spellable, preference_spellable, spellable}
use Rattle.task.specs.Rows.{value_at}
use Rattle.classical.specs.Translation.{further_facts, further}
use Rattle.lists.proofs.Tests.{tests, as_false}
use Rattle.task.proofs.Passing.{conditions_of, conditions_pass}
use Rattle.task.proofs.Reading.{row_at, row_end}
use Rattle.translated_rows.specs.Further.{further_row, further_rows}
use Rattle.task.specs.Limits.{MAX_DEADLINE}

-- Rows one after the other

pub further_append : (xs ys : List Row) → further_rows (xs ++ ys) ≡ further_rows xs + further_rows ys
further_append [] ys = sym (zero-add (further_rows ys))
further_append (x ∷ xs) ys = let e : further_rows (xs ++ ys) ≡ further_rows xs + further_rows ys = further_append xs ys in omega arith

-- rows of other marks
abbrev quiet : Row → Bool
quiet x = not (has_mark STEPS x) && not (has_mark WITHIN x || has_mark (WITHIN + HARD) x)

quiet_rows : (xs : List Row) → T (all quiet xs) → further_rows xs ≡ 0
quiet_rows [] t = refl
quiet_rows (x ∷ xs) t =
    let e : further_row x ≡ 0 = rw (as_false (has_mark STEPS x) (search tests), as_false (has_mark WITHIN x || has_mark (WITHIN + HARD) x) (search tests)) in
    omega (arith, e, quiet_rows xs (search tests))

-- A preference

head_further : (h : Bool) (k : Kind) (w : ℕ) → T (kind_spellable k)
    → further_row (row (opening_mark h k) w) + further_rows (steps_rows k) ≡ further_facts k
head_further true always w t = refl
head_further true sometime w t = refl
head_further true at_end w t = refl
head_further true at_most_once w t = refl
head_further true sometime_before w t = refl
head_further true sometime_after w t = refl
head_further true (within n) w t = let few : n ≤ 15 = leb→le n MAX_DEADLINE t in omega arith
head_further true (always_within n) w t = let few : n ≤ 15 = leb→le n MAX_DEADLINE t in omega arith
head_further false always w t = refl
head_further false sometime w t = refl
head_further false at_end w t = refl
head_further false at_most_once w t = refl
head_further false sometime_before w t = refl
head_further false sometime_after w t = refl
head_further false (within n) w t = let few : n ≤ 15 = leb→le n MAX_DEADLINE t in omega arith
head_further false (always_within n) w t = let few : n ≤ 15 = leb→le n MAX_DEADLINE t in omega arith

preference_further : (q : Preference) → T (kind_spellable q.kind) → further_rows (preference_rows q) ≡ further_facts q.kind
preference_further q t =
    omega (
      arith,
      further_append (steps_rows q.kind) (conditions_of q),
      quiet_rows (conditions_of q) (conditions_pass quiet (λ v. tt) (λ v. tt) (λ v. tt) (λ v. tt) q),
      head_further q.hard q.kind q.weight t,
    )

preferences_further : (qs : List Preference) → T (all preference_spellable qs) → further_rows (concat_map preference_rows qs) ≡ further qs
preferences_further [] t = refl
preferences_further (q ∷ qs) t =
    let fine : T (preference_spellable q) = search tests in
    omega (
      arith,
      further_append (preference_rows q) (concat_map preference_rows qs),
      preference_further q (search tests),
      preferences_further qs (search tests),
    )

-- the preferences of a spellable task
pub task_further : (t : Task) → T (spellable t) → further_rows (concat_map preference_rows t.preferences) ≡ further t.preferences
task_further t s = preferences_further t.preferences (search tests)

-- The loop over the rows

-- what holds before row i is read, the first being row `at`
pub record Counting (ms vs : List ℕ) (at d i : ℕ) : Type 0 where
  pub rows_left : i ≤ length ms
  pub few : d ≤ 16 * i
  pub so_far : d + further_rows (drop i (paired ms vs)) ≡ further_rows (drop at (paired ms vs))

module _ (ms vs : List ℕ) (at d i : ℕ) (so_far : Counting ms vs at d i) where
  pub one_more : i < length ms → (r : ℕ) → r ≡ further_row (row (get_or ms i 0) (value_at vs i)) → r ≤ 16 → Counting ms vs at (d + r) (i + 1)
  one_more h r e l =
      record {
        rows_left = omega arith;
        few = omega (arith, so_far.few);
        so_far = omega (arith, ap further_rows (row_at ms vs i h), so_far.so_far);
      }

  pub all_rows : length ms ≤ i → d ≡ further_rows (drop at (paired ms vs))
  all_rows h = omega (arith, ap further_rows (row_end ms vs i h), so_far.so_far)
