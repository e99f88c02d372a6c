-- Which marks the rows of a piece have.
use mathlib.Core.Bool.{Bool, true, false, cond, ◌&&◌}
use mathlib.Core.List.{List, [], ◌∷◌, ◌++◌, map}
use Prim.Native.Nat.{ℕ, ◌+◌, ◌<◌}
use lib.Dec.{T, ltb, lit<}
use lib.ListN.{get_or}
use Rattle.task.specs.Marks.{EFFECT, CLAUSE, HOLDS, LACKS, ADD, DELETE, START}
use Rattle.task.specs.Marks.{ALWAYS, SOMETIME, AT_END, AT_MOST_ONCE, SOMETIME_BEFORE, SOMETIME_AFTER, SECOND, WITHIN, ALWAYS_WITHIN, STEPS, HARD}
use Rattle.lists.specs.Lists.{all, concat_map}
use Rattle.meaning.specs.Task.{Kind, always, sometime, at_end, at_most_once, sometime_before, sometime_after, within, always_within, Literal}
use Rattle.meaning.specs.Task.{Condition, Effect, Action, Preference, Task, two_sided}
use Rattle.task.specs.TaskRows.{Row, row, kind_mark, opening_mark, steps_rows, literal_row, clause_rows, condition_rows}
use Rattle.task.specs.TaskRows.{effect_rows, action_rows, preference_rows, task_rows}
use Rattle.lists.proofs.Tests.{and_left, and_right, and_both, all_at, all_both, all_map, all-concat}

-- Rows of a preference and of an action after the first

abbrev pub second_rows : Preference → List Row
second_rows q = cond (two_sided q.kind) (row SECOND 0 ∷ condition_rows q.second) []

-- both conditions
abbrev pub conditions_of : Preference → List Row
conditions_of q = condition_rows q.first ++ second_rows q

abbrev pub side_rows : Preference → List Row
side_rows q = steps_rows q.kind ++ conditions_of q

abbrev pub step_rows : Action → List Row
step_rows a = condition_rows a.precondition ++ concat_map effect_rows a.effects

-- Rows that pass a test by their marks

abbrev pub Passes : (Row → Bool) → ℕ → Type 0
Passes p m = (v : ℕ) → T (p (row m v))

module _ (p : Row → Bool) (p4 : Passes p HOLDS) (p5 : Passes p LACKS) where
  pub literal_passes : (l : Literal) → T (p (literal_row l))
  literal_passes l = go l.holds
    where
      go : (b : Bool) → T (p (row (cond b HOLDS LACKS) l.fact))
      go true = p4 l.fact
      go false = p5 l.fact

  pub condition_passes : Passes p CLAUSE → (c : Condition) → T (all p (condition_rows c))
  condition_passes p3 = all-concat p clause_rows (λ c. and_both (p (row CLAUSE 0)) _ (p3 0) (all_map p literal_row literal_passes c))

  module _ (p3 : Passes p CLAUSE) (p6 : Passes p ADD) (p7 : Passes p DELETE) where
    pub changes_pass : (c : Condition) (adds deletes : List ℕ)
        → T (all p (condition_rows c ++ map (row ADD) adds ++ map (row DELETE) deletes))
    changes_pass c adds deletes = search (all_both p, condition_passes p3, all_map p (row ADD) p6, all_map p (row DELETE) p7)

    pub effects_pass : Passes p EFFECT → (es : List Effect) → T (all p (concat_map effect_rows es))
    effects_pass p2 =
        all-concat p effect_rows (λ e. and_both (p (row EFFECT 0)) _ (p2 0) (changes_pass e.condition e.adds e.deletes))

-- the marks that open a soft preference
abbrev pub kind_marks : List ℕ
kind_marks = ALWAYS ∷ SOMETIME ∷ AT_END ∷ AT_MOST_ONCE ∷ SOMETIME_BEFORE ∷ SOMETIME_AFTER ∷ WITHIN ∷ ALWAYS_WITHIN ∷ []

module _ (p : Row → Bool) where
  -- the row that opens a soft preference
  pub kind_passes : ((v : ℕ) → T (all (λ (m : ℕ). p (row m v)) kind_marks)) → (k : Kind) → Passes p (kind_mark k)
  kind_passes h k v = go k
    where
      entry : (i : ℕ) → i < 8 → T (p (row (get_or kind_marks i 0) v))
      entry i l = all_at (λ (m : ℕ). p (row m v)) kind_marks i 0 (h v) l

      go : (k : Kind) → T (p (row (kind_mark k) v))
      go always = entry 0 (lit< tt)
      go sometime = entry 1 (lit< tt)
      go at_end = entry 2 (lit< tt)
      go at_most_once = entry 3 (lit< tt)
      go sometime_before = entry 4 (lit< tt)
      go sometime_after = entry 5 (lit< tt)
      go (within t) = entry 6 (lit< tt)
      go (always_within t) = entry 7 (lit< tt)

  pub steps_pass : Passes p STEPS → (k : Kind) → T (all p (steps_rows k))
  steps_pass steps always = tt
  steps_pass steps sometime = tt
  steps_pass steps at_end = tt
  steps_pass steps at_most_once = tt
  steps_pass steps sometime_before = tt
  steps_pass steps sometime_after = tt
  steps_pass steps (within t) = and_both (p (row STEPS t)) true (steps t) tt
  steps_pass steps (always_within t) = and_both (p (row STEPS t)) true (steps t) tt

-- the row that opens a preference, hard or soft
pub opening_passes : (p : Row → Bool) → ((v : ℕ) → T (all (λ (m : ℕ). p (row m v) && p (row (m + HARD) v)) kind_marks))
    → (h : Bool) (k : Kind) → Passes p (opening_mark h k)
opening_passes p t h k v = go h (kind_passes (λ (x : Row). p x && p (row (x.mark + HARD) x.value)) t k v)
  where
    go : (h : Bool) → T (p (row (kind_mark k) v) && p (row (kind_mark k + HARD) v)) → T (p (row (opening_mark h k) v))
    go true t = and_right (p (row (kind_mark k) v)) (p (row (kind_mark k + HARD) v)) t
    go false t = and_left (p (row (kind_mark k) v)) (p (row (kind_mark k + HARD) v)) t

pub conditions_pass : (p : Row → Bool) → Passes p HOLDS → Passes p LACKS → Passes p CLAUSE → Passes p SECOND → (q : Preference)
    → T (all p (conditions_of q))
conditions_pass p holds lacks clause second q =
    all_both p (condition_rows q.first) (second_rows q) (condition_passes p holds lacks clause q.first) (go (two_sided q.kind))
  where
    go : (b : Bool) → T (all p (cond b (row SECOND 0 ∷ condition_rows q.second) []))
    go true = and_both (p (row SECOND 0)) (all p (condition_rows q.second)) (second 0) (condition_passes p holds lacks clause q.second)
    go false = tt

pub sides_pass : (p : Row → Bool) → Passes p HOLDS → Passes p LACKS → Passes p CLAUSE → Passes p SECOND → Passes p STEPS → (q : Preference)
    → T (all p (side_rows q))
sides_pass p holds lacks clause second steps q =
    all_both p (steps_rows q.kind) (conditions_of q) (steps_pass p steps q.kind)
    (conditions_pass p holds lacks clause second q)

-- Every mark fits a byte

abbrev mark_fits : Row → Bool
mark_fits x = ltb x.mark 256

condition_marks : (c : Condition) → T (all mark_fits (condition_rows c))
condition_marks = condition_passes mark_fits (λ v. tt) (λ v. tt) (λ v. tt)

action_marks : (a : Action) → T (all mark_fits (step_rows a))
action_marks a =
    all_both mark_fits (condition_rows a.precondition) (concat_map effect_rows a.effects) (condition_marks a.precondition)
    (effects_pass mark_fits (λ v. tt) (λ v. tt) (λ v. tt) (λ v. tt) (λ v. tt) (λ v. tt) a.effects)

preference_marks : (q : Preference) → T (all mark_fits (preference_rows q))
preference_marks q =
    and_both (mark_fits (row (opening_mark q.hard q.kind) q.weight)) (all mark_fits (side_rows q))
    (opening_passes mark_fits (λ v. tt) q.hard q.kind q.weight)
    (sides_pass mark_fits (λ v. tt) (λ v. tt) (λ v. tt) (λ v. tt) (λ v. tt) q)

pub task_marks : (t : Task) → T (all mark_fits (task_rows t))
task_marks t =
    let acts : T (all mark_fits (concat_map action_rows t.actions)) = all-concat mark_fits action_rows action_marks t.actions in
    let prefs : T (all mark_fits (concat_map preference_rows t.preferences)) =
    all-concat mark_fits preference_rows preference_marks t.preferences in
    search (all_both mark_fits, all_map mark_fits (row START) (λ v. tt) t.start, condition_marks t.goal)
