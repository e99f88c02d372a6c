-- Where the parts of a task stand among its rows, and what stands after each.
use mathlib.Core.Path.{◌≡◌, refl, sym, ap, ◌∙◌}
use mathlib.Core.Bool.{Bool, false, not, ◌&&◌}
use mathlib.Core.List.{List, [], ◌∷◌, ◌++◌, map, append-nil}
use Prim.Native.Nat.{ℕ, ◌+◌}
use lib.Dec.{T}
use lib.ListN.{length, drop, length-map}
use lib.Seq.{drop-drop, drop_at}
use Rattle.lists.specs.Lists.{all, concat_map, take_until}
use Rattle.task.specs.Marks.{ACTION, EFFECT, GOAL, START, HARD}
use Rattle.meaning.specs.Task.{Kind, Effect, Action, Preference, Task}
use Rattle.task.specs.TaskRows.{Row, row, opening_mark, condition_rows, effect_rows, action_rows, preference_rows, task_rows}
use Rattle.task.specs.File.{is_preference}
use Rattle.task.specs.Rows.{Stops}
use Rattle.lists.proofs.Tests.{none_of, without, all_both, all_map, all-concat, take_until-none, as_true, as_false}
use Rattle.task.proofs.Passing.{condition_passes, effects_pass, kind_marks, opening_passes}
use Rattle.task.proofs.RoundTrip.{from_goal, task_grouped}

-- Rows after other rows

pub drop_next : {A : Type 0} (i : ℕ) (l : List A) (x : A) (xs : List A) → drop i l ≡ x ∷ xs → drop (i + 1) l ≡ xs
drop_next i l x xs e = sym (drop-drop 1 i l) ∙ ap (drop 1) e

pub drop_after : {A : Type 0} (i : ℕ) (l xs ys : List A) → drop i l ≡ xs ++ ys → drop (i + length xs) l ≡ ys
drop_after i l xs ys e = sym (drop-drop (length xs) i l) ∙ ap (drop (length xs)) e ∙ drop_at xs ys (length xs) refl

-- the rows after n others are ys
abbrev pub StandsAfter : List Row → ℕ → List Row → Type 0
StandsAfter rows n ys = (xs : List Row) × (rows ≡ xs ++ ys) × (length xs ≡ n)

pub after_drop : (rows : List Row) (n : ℕ) (ys : List Row) → StandsAfter rows n ys → drop n rows ≡ ys
after_drop rows n ys (xs, e, l) = ap (drop n) e ∙ drop_at xs ys n l

-- What may stand after a condition, and after effects

-- no mark that opens a preference passes the test
pub past_kinds : (p : ℕ → Bool) → T (all (λ (m : ℕ). not (p m) && not (p (m + HARD))) kind_marks) → (h : Bool) (k : Kind)
    → p (opening_mark h k) ≡ false
past_kinds p t h k = as_false (p (opening_mark h k)) (opening_passes (λ (x : Row). not (p x.mark)) (λ v. t) h k 0)

abbrev pub tail_rows : List Action → List Preference → List Row
tail_rows l qs = concat_map action_rows l ++ concat_map preference_rows qs

module _ (p : ℕ → Bool) (kinds : (h : Bool) (k : Kind) → p (opening_mark h k) ≡ false) where
  pub preferences_stop : (qs : List Preference) → Stops p (concat_map preference_rows qs)
  preferences_stop [] = tt
  preferences_stop (q ∷ qs) = kinds q.hard q.kind

  pub tail_stops : p ACTION ≡ false → (l : List Action) (qs : List Preference) → Stops p (tail_rows l qs)
  tail_stops action [] qs = preferences_stop qs
  tail_stops action (a ∷ l) qs = action

-- effects, and rows after them
pub effects_stop : (p : ℕ → Bool) → p EFFECT ≡ false → (es : List Effect) (xs : List Row) → Stops p xs → Stops p (concat_map effect_rows es ++ xs)
effects_stop p e [] xs s = s
effects_stop p e (f ∷ es) xs s = e

-- START rows, then GOAL

pub starts_after : (t : Task) → StandsAfter (task_rows t) (length t.start) (from_goal t)
starts_after t = (map (row START) t.start, task_grouped t, length-map t.start (row START))

pub goal_after : (t : Task) → drop (length t.start + 1) (task_rows t) ≡ condition_rows t.goal ++ tail_rows t.actions t.preferences
goal_after t =
    drop_next (length t.start) (task_rows t) (row GOAL 0) (condition_rows t.goal ++ tail_rows t.actions t.preferences)
    (after_drop (task_rows t) (length t.start) (from_goal t) (starts_after t))

-- Before the preferences no row has a preference's mark

-- START, the goal and the actions
abbrev pub front : Task → List Row
front t = map (row START) t.start ++ (row GOAL 0 ∷ condition_rows t.goal) ++ concat_map action_rows t.actions

action_no_preference : (a : Action) → T (none_of is_preference (action_rows a))
action_no_preference a =
    all_both (without is_preference) (condition_rows a.precondition) (concat_map effect_rows a.effects)
    (condition_passes (without is_preference) (λ v. tt) (λ v. tt) (λ v. tt) a.precondition)
    (effects_pass (without is_preference) (λ v. tt) (λ v. tt) (λ v. tt) (λ v. tt) (λ v. tt) (λ v. tt) a.effects)

pub front_no_preference : (t : Task) → T (none_of is_preference (front t))
front_no_preference t =
    all_both (without is_preference) (map (row START) t.start ++ (row GOAL 0 ∷ condition_rows t.goal)) (concat_map action_rows t.actions)
    (all_both (without is_preference) (map (row START) t.start) (row GOAL 0 ∷ condition_rows t.goal)
    (all_map (without is_preference) (row START) (λ v. tt) t.start)
    (condition_passes (without is_preference) (λ v. tt) (λ v. tt) (λ v. tt) t.goal))
    (all-concat (without is_preference) action_rows action_no_preference t.actions)

pub kind_preference : (h : Bool) (k : Kind) (v : ℕ) → T (is_preference (row (opening_mark h k) v))
kind_preference = opening_passes is_preference (λ v. tt)

up_to_preferences : (qs : List Preference) → take_until is_preference (concat_map preference_rows qs) ≡ []
up_to_preferences [] = refl
up_to_preferences (q ∷ qs) =
    rw (as_true (is_preference (row (opening_mark q.hard q.kind) q.weight)) (kind_preference q.hard q.kind q.weight))

pub preferences_after : (t : Task) → drop (length (take_until is_preference (task_rows t))) (task_rows t) ≡ concat_map preference_rows t.preferences
preferences_after t =
    let before : take_until is_preference (task_rows t) ≡ front t ++ [] =
    take_until-none is_preference (front t) (concat_map preference_rows t.preferences) (front_no_preference t)
    ∙ ap (λ (xs : List Row). front t ++ xs) (up_to_preferences t.preferences) in
    drop_at (front t) (concat_map preference_rows t.preferences) (length (take_until is_preference (task_rows t)))
    (sym (ap length before ∙ ap length (append-nil (front t))))
