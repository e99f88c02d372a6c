-- The rows at which the actions of a task begin, and what stands there.
use mathlib.Core.Path.{◌≡◌, refl, sym, ap, ◌∙◌, subst}
use mathlib.Core.Bool.{Bool, true, false, cond}
use mathlib.Core.List.{List, [], ◌∷◌, ◌++◌, map, append_assoc, append-nil}
use Prim.Native.Nat.{ℕ, zero, suc, ◌+◌, ◌<◌}
use native.Mathlib.Nat.{le_of_suc-le-suc, not-suc-le-zero, add-zero, zero-add}
use native.Mathlib.Omega.{arith}
use lib.Dec.{T, eqb}
use lib.ListN.{length, take, drop, get_or, length-append, take-append-drop}
use lib.Seq.{drop_at, drop-cons}
use borrow.Author.Tests.{lt-ltb}
use Rattle.lists.specs.Lists.{concat_map}
use Rattle.task.specs.Marks.{ACTION, GOAL, START}
use Rattle.meaning.specs.Task.{Action, Preference, Task}
use Rattle.task.specs.TaskRows.{Row, row, opening_mark, condition_rows, effect_rows, action_rows, preference_rows, task_rows}
use Rattle.task.specs.File.{paired, marks, has_mark}
use Rattle.meaning.specs.Meaning.{action_at, no_action}
use Rattle.lists.proofs.Tests.{tests, none_of, without, as_false, and_both, all_both, all_map, all-concat, concat-append}
use Rattle.task.proofs.Bytes.{marks-paired}
use Rattle.task.proofs.Passing.{step_rows, side_rows, condition_passes, effects_pass, opening_passes, sides_pass}
use Rattle.task.proofs.Positions.{tail_rows}
use Rattle.layout.specs.Rows.{Spells}
use Rattle.layout.specs.Actions.{actions_from, action_row, AllBelow}

-- Rows without an ACTION are passed

step_no_action : (a : Action) → T (none_of (has_mark ACTION) (step_rows a))
step_no_action a =
    all_both (without (has_mark ACTION)) (condition_rows a.precondition) (concat_map effect_rows a.effects)
    (condition_passes (without (has_mark ACTION)) (λ v. tt) (λ v. tt) (λ v. tt) a.precondition)
    (effects_pass (without (has_mark ACTION)) (λ v. tt) (λ v. tt) (λ v. tt) (λ v. tt) (λ v. tt) (λ v. tt) a.effects)

preference_no_action : (q : Preference) → T (none_of (has_mark ACTION) (preference_rows q))
preference_no_action q =
    and_both (without (has_mark ACTION) (row (opening_mark q.hard q.kind) q.weight)) (none_of (has_mark ACTION) (side_rows q))
    (opening_passes (without (has_mark ACTION)) (λ v. tt) q.hard q.kind q.weight)
    (sides_pass (without (has_mark ACTION)) (λ v. tt) (λ v. tt) (λ v. tt) (λ v. tt) (λ v. tt) q)

-- START, GOAL and the goal's condition
abbrev pub opened : Task → List Row
opened t = map (row START) t.start ++ (row GOAL 0 ∷ condition_rows t.goal)

opened_no_action : (t : Task) → T (none_of (has_mark ACTION) (opened t))
opened_no_action t =
    all_both (without (has_mark ACTION)) (map (row START) t.start) (row GOAL 0 ∷ condition_rows t.goal)
    (all_map (without (has_mark ACTION)) (row START) (λ v. tt) t.start)
    (condition_passes (without (has_mark ACTION)) (λ v. tt) (λ v. tt) (λ v. tt) t.goal)

passed : (i : ℕ) (ys xs : List Row) → T (none_of (has_mark ACTION) ys) → actions_from i (marks (ys ++ xs)) ≡ actions_from (i + length ys) (marks xs)
unfolding actions_from
passed i [] xs h = ap (λ (n : ℕ). actions_from n (marks xs)) (sym (add-zero i))
passed i (y ∷ ys) xs h =
    let n : i + 1 + length ys ≡ i + suc (length ys) = omega arith in
    rw (as_false (has_mark ACTION y) (search tests)) (passed (i + 1) ys xs (search tests) ∙ ap (λ (n : ℕ). actions_from n (marks xs)) n)

none : (i : ℕ) (ys : List Row) → T (none_of (has_mark ACTION) ys) → actions_from i (marks ys) ≡ []
unfolding actions_from
none i ys h = ap (λ (xs : List Row). actions_from i (marks xs)) (sym (append-nil ys)) ∙ passed i ys [] h

-- Actions, the first of which begins at row i

abbrev begin_at : ℕ → List Action → List ℕ
begin_at i [] = []
begin_at i (a ∷ l) = i ∷ begin_at (i + length (action_rows a)) l

among : (i : ℕ) (l : List Action) (after : List Row) → T (none_of (has_mark ACTION) after)
    → actions_from i (marks (concat_map action_rows l ++ after)) ≡ begin_at i l
unfolding actions_from
among i [] after h = none i after h
among i (a ∷ l) after h =
    let rest : List Row = concat_map action_rows l ++ after in
    let n : i + 1 + length (step_rows a) ≡ i + length (action_rows a) = omega arith in
    ap (λ (xs : List ℕ). i ∷ xs)
    (ap (λ (xs : List Row). actions_from (i + 1) (marks xs)) (append_assoc (step_rows a) (concat_map action_rows l) after)
    ∙ passed (i + 1) (step_rows a) rest (step_no_action a)
    ∙ ap (λ (n : ℕ). actions_from n (marks rest)) n
    ∙ among (i + length (action_rows a)) l after h)

as_many_begin : (i : ℕ) (l : List Action) → length (begin_at i l) ≡ length l
as_many_begin i [] = refl
as_many_begin i (a ∷ l) = ap suc (as_many_begin (i + length (action_rows a)) l)

begins : (i : ℕ) (l : List Action) (k : ℕ) → k < length l → get_or (begin_at i l) k 0 ≡ i + length (concat_map action_rows (take k l))
begins i [] k h = absurd (not-suc-le-zero h)
begins i (a ∷ l) zero h = sym (add-zero i)
begins i (a ∷ l) (suc k) h =
    begins (i + length (action_rows a)) l k (le_of_suc-le-suc h)
    ∙ omega (arith, length-append (action_rows a) (concat_map action_rows (take k l)))

-- None stands after the last row

within : (i : ℕ) (ms : List ℕ) → AllBelow (i + length ms) (actions_from i ms)
unfolding actions_from
within i [] = tt
within i (m ∷ ms) =
    let n : i + 1 + length ms ≡ i + suc (length ms) = omega arith in
    go (eqb m ACTION) (subst (λ (k : ℕ). AllBelow k (actions_from (i + 1) ms)) n (within (i + 1) ms))
  where
    go : (b : Bool) → AllBelow (i + suc (length ms)) (actions_from (i + 1) ms)
        → AllBelow (i + suc (length ms)) (cond b (i ∷ actions_from (i + 1) ms) (actions_from (i + 1) ms))
    go true t = rw (lt-ltb i (i + suc (length ms)) (omega arith)) t
    go false t = t

pub within_rows_lem : (ms : List ℕ) → AllBelow (length ms) (actions_from 0 ms)
within_rows_lem ms = subst (λ (n : ℕ). AllBelow n (actions_from 0 ms)) (zero-add (length ms)) (within 0 ms)

-- In a task

module _ (t : Task) (ms vs : List ℕ) (R : Spells ms vs t) where
  rows_are : actions_from 0 ms ≡ begin_at (length (opened t)) t.actions
  rows_are =
      let prefs : List Row = concat_map preference_rows t.preferences in
      let acts : List Row = concat_map action_rows t.actions in
      ap (actions_from 0) (sym (marks-paired ms vs) ∙ ap marks (R.spelled ∙ append_assoc (opened t) acts prefs))
      ∙ passed 0 (opened t) (acts ++ prefs) (opened_no_action t)
      ∙ ap (λ (n : ℕ). actions_from n (marks (acts ++ prefs))) (zero-add (length (opened t)))
      ∙ among (length (opened t)) t.actions prefs (all-concat (without (has_mark ACTION)) preference_rows preference_no_action t.preferences)

  pub as_many : length (actions_from 0 ms) ≡ length t.actions
  as_many = ap length rows_are ∙ as_many_begin (length (opened t)) t.actions

  module _ (k : ℕ) (h : k < length t.actions) where
    pub noted : get_or (actions_from 0 ms) k 0 ≡ action_row t k
    noted =
        ap (λ (l : List ℕ). get_or l k 0) rows_are
        ∙ begins (length (opened t)) t.actions k h
        ∙ sym (length-append (opened t) (concat_map action_rows (take k t.actions)))

    abbrev pub others : List Action
    others = drop (suc k) t.actions

    split : task_rows t
        ≡ (opened t ++ concat_map action_rows (take k t.actions)) ++ (action_rows (action_at t k) ++ tail_rows others t.preferences)
    split =
        let prefs : List Row = concat_map preference_rows t.preferences in
        let before : List Row = concat_map action_rows (take k t.actions) in
        let after : List Row = action_rows (action_at t k) ++ concat_map action_rows others in
        let acts : concat_map action_rows t.actions ≡ before ++ after =
        ap (concat_map action_rows) (sym (take-append-drop k t.actions) ∙ ap (λ (l : List Action). take k t.actions ++ l) (drop-cons t.actions k no_action h))
        ∙ concat-append action_rows (take k t.actions) (action_at t k ∷ others) in
        ap (λ (xs : List Row). opened t ++ xs ++ prefs) acts
        ∙ cc (
          append_assoc (opened t) before after,
          append_assoc (opened t ++ before) after prefs,
          append_assoc (action_rows (action_at t k)) (concat_map action_rows others) prefs,
        )

    pub rows_at : drop (action_row t k) (paired ms vs) ≡ action_rows (action_at t k) ++ tail_rows others t.preferences
    rows_at =
        ap (drop (action_row t k)) (R.spelled ∙ split)
        ∙ drop_at (opened t ++ concat_map action_rows (take k t.actions)) (action_rows (action_at t k) ++ tail_rows others t.preferences) (action_row t k) refl
