-- No place is refused exactly where every effect of the task has at most 64 choices.
use mathlib.Core.Path.{◌≡◌, refl, sym, ap, ◌∙◌, subst}
use mathlib.Core.Logic.{◌↔◌}
use mathlib.Core.Bool.{Bool, true, false, not, cond, ◌&&◌, true≢false, and-true, and_assoc}
use mathlib.Core.List.{List, [], ◌∷◌, ◌++◌, map, append-nil, append_assoc}
use mathlib.Core.Option.{Option, none, some}
use Prim.Native.Nat.{ℕ, suc, ◌+◌}
use native.Mathlib.Omega.{arith}
use lib.Dec.{T}
use lib.ListN.{length}
use Rattle.lists.specs.Lists.{all, take_until, concat_map}
use Rattle.task.specs.Marks.{EFFECT, ADD, DELETE, START, GOAL, ACTION}
use Rattle.meaning.specs.Task.{Condition, Effect, Action, Preference, Task}
use Rattle.task.specs.TaskRows.{Row, row, opening_mark, condition_rows, effect_rows, action_rows, preference_rows, task_rows}
use Rattle.task.specs.File.{has_mark, condition_of}
use Rattle.lists.proofs.Tests.{tests, none_of, without, as_true, as_t, as_false, and_both, all_both, all_map, all-concat, take_until-none}
use Rattle.task.proofs.Passing.{condition_passes, changes_pass, opening_passes, sides_pass, side_rows}
use Rattle.task.proofs.RoundTrip.{condition_back}
use Rattle.singling.specs.Wide.{is_wide, is_narrow, all_narrow, outside, condition_here, first_wide}

-- The condition that rows begin with

-- no condition goes on in the rows
abbrev pub Ends : List Row → Type 0
Ends xs = take_until outside xs ≡ []

condition_here_lem : (c : Condition) (xs : List Row) → Ends xs → condition_here (condition_rows c ++ xs) ≡ c
condition_here_lem c xs e =
    ap condition_of
    (take_until-none outside (condition_rows c) xs (condition_passes (without outside) (λ v. tt) (λ v. tt) (λ v. tt) c)
    ∙ ap (λ (ys : List Row). condition_rows c ++ ys) e ∙ append-nil (condition_rows c))
    ∙ condition_back c

adds_end : (ns : List ℕ) (xs : List Row) → Ends xs → Ends (map (row ADD) ns ++ xs)
adds_end [] xs e = e
adds_end (n ∷ ns) xs e = refl

deletes_end : (ns : List ℕ) (xs : List Row) → Ends xs → Ends (map (row DELETE) ns ++ xs)
deletes_end [] xs e = e
deletes_end (n ∷ ns) xs e = refl

effects_end : (es : List Effect) (xs : List Row) → Ends xs → Ends (concat_map effect_rows es ++ xs)
effects_end [] xs e = e
effects_end (e₁ ∷ es) xs e = refl

actions_end : (l : List Action) (xs : List Row) → Ends xs → Ends (concat_map action_rows l ++ xs)
actions_end [] xs e = e
actions_end (a ∷ l) xs e = refl

preferences_end : (qs : List Preference) → Ends (concat_map preference_rows qs)
preferences_end [] = refl
preferences_end (q ∷ qs) = rw (as_true (outside (row (opening_mark q.hard q.kind) q.weight)) (opening_passes outside (λ v. tt) q.hard q.kind q.weight))

-- Rows without EFFECT are passed over

abbrev pub no_effect : List Row → Bool
no_effect = none_of (has_mark EFFECT)

pub wide_after : (i : ℕ) (xs ys : List Row) → T (no_effect xs) → first_wide i (xs ++ ys) ≡ first_wide (i + length xs) ys
wide_after i [] ys t = ap (λ (j : ℕ). first_wide j ys) (omega arith)
wide_after i (x ∷ xs) ys t =
    rw (as_false (has_mark EFFECT x) (search tests)) (wide_after (suc i) xs ys (search tests) ∙ ap (λ (j : ℕ). first_wide j ys) (omega arith))

-- an effect's own row is the place
pub wide_effect : (i : ℕ) (e : Effect) (xs : List Row) → Ends xs
    → first_wide i (effect_rows e ++ xs) ≡ cond (is_wide e.condition) (some i) (first_wide (i + length (effect_rows e)) xs)
wide_effect i e xs h =
    let c : List Row = condition_rows e.condition in
    let a : List Row = map (row ADD) e.adds in
    let d : List Row = map (row DELETE) e.deletes in
    let grouped : c ++ a ++ d ++ xs ≡ c ++ (a ++ (d ++ xs)) = cc (append_assoc (c ++ a) d xs, append_assoc c a (d ++ xs)) in
    let own : condition_here (c ++ a ++ d ++ xs) ≡ e.condition =
    ap condition_here grouped ∙ condition_here_lem e.condition (a ++ (d ++ xs)) (adds_end e.adds (d ++ xs) (deletes_end e.deletes xs h)) in
    let later : first_wide (suc i) (c ++ a ++ d ++ xs) ≡ first_wide (i + length (effect_rows e)) xs =
    wide_after (suc i) (c ++ a ++ d) xs
    (changes_pass (without (has_mark EFFECT)) (λ v. tt) (λ v. tt) (λ v. tt) (λ v. tt) (λ v. tt) e.condition e.adds e.deletes)
    ∙ ap (λ (j : ℕ). first_wide j xs) (omega arith) in
    λ z. cond (is_wide (own z)) (some i) (later z)

-- No place at all

abbrev is_none : Option ℕ → Bool
is_none none = true
is_none (some i) = false

-- whatever the number of the first row
none_anywhere : (i j : ℕ) (xs : List Row) → is_none (first_wide i xs) ≡ is_none (first_wide j xs)
none_anywhere i j [] = refl
none_anywhere i j (x ∷ xs) = go (has_mark EFFECT x && is_wide (condition_here xs)) (none_anywhere (suc i) (suc j) xs)
  where
    go : (b : Bool) → is_none (first_wide (suc i) xs) ≡ is_none (first_wide (suc j) xs)
        → is_none (cond b (some i) (first_wide (suc i) xs)) ≡ is_none (cond b (some j) (first_wide (suc j) xs))
    go true e = refl
    go false e = e

none_after : (xs ys : List Row) → T (no_effect xs) → is_none (first_wide 0 (xs ++ ys)) ≡ is_none (first_wide 0 ys)
none_after xs ys t = ap is_none (wide_after 0 xs ys t) ∙ none_anywhere (0 + length xs) 0 ys

none_effects : (es : List Effect) (xs : List Row) → Ends xs
    → is_none (first_wide 0 (concat_map effect_rows es ++ xs)) ≡ (all is_narrow es && is_none (first_wide 0 xs))
none_effects [] xs h = refl
none_effects (e ∷ es) xs h =
    let more : List Row = concat_map effect_rows es ++ xs in
    ap (λ (ys : List Row). is_none (first_wide 0 ys)) (append_assoc (effect_rows e) (concat_map effect_rows es) xs)
    ∙ ap is_none (wide_effect 0 e more (effects_end es xs h))
    ∙ go (is_wide e.condition) (none_anywhere (0 + length (effect_rows e)) 0 more ∙ none_effects es xs h)
  where
    go : (b : Bool)
        → is_none (first_wide (0 + length (effect_rows e)) (concat_map effect_rows es ++ xs)) ≡ (all is_narrow es && is_none (first_wide 0 xs))
        → is_none (cond b (some 0) (first_wide (0 + length (effect_rows e)) (concat_map effect_rows es ++ xs)))
        ≡ (not b && all is_narrow es && is_none (first_wide 0 xs))
    go true q = refl
    go false q = q

pub condition_effectless : (c : Condition) → T (no_effect (condition_rows c))
condition_effectless = condition_passes (without (has_mark EFFECT)) (λ v. tt) (λ v. tt) (λ v. tt)

none_actions : (l : List Action) (xs : List Row) → Ends xs
    → is_none (first_wide 0 (concat_map action_rows l ++ xs)) ≡ (all (λ (a : Action). all is_narrow a.effects) l && is_none (first_wide 0 xs))
none_actions [] xs h = refl
none_actions (a ∷ l) xs h =
    let head : List Row = row ACTION a.cost ∷ condition_rows a.precondition in
    let es : List Row = concat_map effect_rows a.effects in
    let more : List Row = concat_map action_rows l in
    let grouped : head ++ es ++ more ++ xs ≡ head ++ (es ++ (more ++ xs)) = cc (append_assoc (head ++ es) more xs, append_assoc head es (more ++ xs)) in
    ap (λ (ys : List Row). is_none (first_wide 0 ys)) grouped
    ∙ none_after head (es ++ (more ++ xs)) (condition_effectless a.precondition)
    ∙ none_effects a.effects (more ++ xs) (actions_end l xs h)
    ∙ ap (λ (b : Bool). all is_narrow a.effects && b) (none_actions l xs h)
    ∙ sym (and_assoc (all is_narrow a.effects) (all (λ (a : Action). all is_narrow a.effects) l) (is_none (first_wide 0 xs)))

pub preferences_effectless : (qs : List Preference) → T (no_effect (concat_map preference_rows qs))
preferences_effectless =
    all-concat (without (has_mark EFFECT)) preference_rows
    (λ q. and_both (without (has_mark EFFECT) (row (opening_mark q.hard q.kind) q.weight)) (no_effect (side_rows q))
    (opening_passes (without (has_mark EFFECT)) (λ v. tt) q.hard q.kind q.weight)
    (sides_pass (without (has_mark EFFECT)) (λ v. tt) (λ v. tt) (λ v. tt) (λ v. tt) (λ v. tt) q))

none_preferences : (qs : List Preference) → is_none (first_wide 0 (concat_map preference_rows qs)) ≡ true
none_preferences qs =
    let rows : List Row = concat_map preference_rows qs in
    ap (λ (xs : List Row). is_none (first_wide 0 xs)) (sym (append-nil rows)) ∙ none_after rows [] (preferences_effectless qs)

none_task : (t : Task) → is_none (first_wide 0 (task_rows t)) ≡ all_narrow t
none_task t =
    let s : List Row = map (row START) t.start in
    let g : List Row = row GOAL 0 ∷ condition_rows t.goal in
    let a : List Row = concat_map action_rows t.actions in
    let p : List Row = concat_map preference_rows t.preferences in
    let front : T (no_effect (s ++ g)) =
    all_both (without (has_mark EFFECT)) s g (all_map (without (has_mark EFFECT)) (row START) (λ v. tt) t.start) (condition_effectless t.goal) in
    ap (λ (xs : List Row). is_none (first_wide 0 xs)) (append_assoc (s ++ g) a p)
    ∙ none_after (s ++ g) (a ++ p) front
    ∙ none_actions t.actions p (preferences_end t.preferences)
    ∙ ap (λ (b : Bool). all_narrow t && b) (none_preferences t.preferences)
    ∙ and-true (all_narrow t)

pub none_wide : (t : Task) → (first_wide 0 (task_rows t) ≡ none) ↔ T (all_narrow t)
none_wide t = (λ e. subst T (none_task t) (as_t (ap is_none e)), λ h. is_none_lem (first_wide 0 (task_rows t)) (none_task t ∙ as_true (all_narrow t) h))
  where
    is_none_lem : (o : Option ℕ) → is_none o ≡ true → o ≡ none
    is_none_lem none e = refl
    is_none_lem (some i) e = absurd (true≢false (sym e))
