-- On the rows that spell a task, the lines of the rows are those of its preferences.
use mathlib.Core.Path.{◌≡◌, refl, ap, ◌∙◌}
use mathlib.Core.Bool.{Bool}
use mathlib.Core.List.{List, [], ◌∷◌, ◌++◌}
use Prim.Native.Nat.{ℕ, ◌+◌}
use lib.Dec.{T}
use Rattle.lists.specs.Lists.{concat_map, concat_from}
use Rattle.meaning.specs.Task.{Kind, always, sometime, at_end, at_most_once, sometime_before, sometime_after, within, always_within, Preference, Task}
use Rattle.task.specs.TaskRows.{Row, row, kind_mark, opening_mark, preference_rows, task_rows}
use Rattle.task.specs.File.{is_preference, kind_of}
use Rattle.lists.proofs.Tests.{tests, none_of, without, as_true, as_false}
use Rattle.task.proofs.Hard.{soft_back, hard_back}
use Rattle.task.proofs.Passing.{side_rows, sides_pass}
use Rattle.task.proofs.Positions.{kind_preference, front, front_no_preference}
use Rattle.plan.specs.Judged.{Judged, given, refused}
use Rattle.meaning.specs.Verdict.{solved, stopped, goal_missed, rule_missed}
use Rattle.report_lines.specs.Lines.{kind_word, preference_line, solved_line, amounts_line}
use Rattle.report.specs.Report.{preference_lines, report_of}
use Rattle.report.specs.Rows.{row_line, row_lines, report_of_rows}

-- the word of a kind does not hang on its steps
word_by_mark : (k : Kind) → kind_word (kind_of (kind_mark k) 0) ≡ kind_word k
word_by_mark always = refl
word_by_mark sometime = refl
word_by_mark at_end = refl
word_by_mark at_most_once = refl
word_by_mark sometime_before = refl
word_by_mark sometime_after = refl
word_by_mark (within t) = refl
word_by_mark (always_within t) = refl

module _ (met : ℕ → Bool) where
  no_lines : (k : ℕ) (xs ys : List Row) → T (none_of is_preference xs) → row_lines met k (xs ++ ys) ≡ row_lines met k ys
  unfolding row_line row_lines
  no_lines k [] ys t = refl
  no_lines k (x ∷ xs) ys t = rw (as_false (is_preference x) (search tests)) (no_lines k xs ys (search tests))

  -- the row that opens preference k
  opening_line : (k : ℕ) (hard : Bool) (kind : Kind) (w : ℕ) (xs : List Row)
      → row_lines met k (row (opening_mark hard kind) w ∷ xs) ≡ preference_line k hard kind w (met k) ++ row_lines met (k + 1) xs
  unfolding row_line row_lines preference_line
  opening_line k hard kind w xs =
      rw (
        as_true (is_preference (row (opening_mark hard kind) w)) (kind_preference hard kind w),
        soft_back hard kind,
        hard_back hard kind,
        word_by_mark kind,
      )

  abbrev line_of : ℕ → Preference → List ℕ
  line_of k p = preference_line k p.hard p.kind p.weight (met k)

  all_lines : (k : ℕ) (qs : List Preference) → row_lines met k (concat_map preference_rows qs) ≡ concat_from line_of k qs
  unfolding row_lines
  all_lines k [] = refl
  all_lines k (q ∷ qs) =
      opening_line k q.hard q.kind q.weight (side_rows q ++ concat_map preference_rows qs)
      ∙ ap (λ (l : List ℕ). line_of k q ++ l) (no_lines (k + 1) (side_rows q) (concat_map preference_rows qs)
      (sides_pass (without is_preference) (λ v. tt) (λ v. tt) (λ v. tt) (λ v. tt) (λ v. tt) q)
      ∙ all_lines (k + 1) qs)

  pub task_lines : (t : Task) → row_lines met 0 (task_rows t) ≡ preference_lines t met
  task_lines t = no_lines 0 (front t) (concat_map preference_rows t.preferences) (front_no_preference t) ∙ all_lines 0 t.preferences

pub task_report : (t : Task) (n : ℕ) (j : Judged) → report_of_rows (task_rows t) n j ≡ report_of t n j
task_report t n (given (solved cost metric utility met)) =
    ap (λ (l : List ℕ). solved_line n cost ++ l ++ amounts_line metric utility) (task_lines met t)
task_report t n (given (stopped step)) = refl
task_report t n (given goal_missed) = refl
task_report t n (given (rule_missed rule)) = refl
task_report t n (refused number place) = refl
