-- The rows of a task are read back as that task.
use mathlib.Core.Path.{◌≡◌, refl, ap, ◌∙◌}
use mathlib.Core.Bool.{Bool, true, false, not, cond, ◌&&◌, ◌||◌}
use mathlib.Core.List.{List, [], ◌∷◌, ◌++◌, map, append-nil, append_assoc}
use Prim.Native.Nat.{ℕ}
use lib.Dec.{T}
use lib.ListN.{get_or}
use Rattle.task.specs.Marks.{ACTION, EFFECT, CLAUSE, HOLDS, LACKS, ADD, DELETE, GOAL, START, SECOND}
use Rattle.lists.specs.Lists.{all, filter, take_until, concat_map, is_empty}
use Rattle.meaning.specs.Task.{Kind, always, sometime, at_end, at_most_once, sometime_before, sometime_after, within, always_within, Literal}
use Rattle.meaning.specs.Task.{Clause, Condition, Effect, Action, Preference, Task, two_sided}
use Rattle.task.specs.TaskRows.{Row, row, kind_mark, opening_mark, steps_rows, literal_row, condition_rows, effect_rows}
use Rattle.task.specs.TaskRows.{action_rows, preference_rows, task_rows}
use Rattle.task.specs.File.{Part, Parts, cut, has_mark, is_preference, values, literal_of, condition_of, is_section, kind_of, preference_of, sections}
use Rattle.task.specs.File.{is_change, effect_of, action_of, task_of_rows}
use Rattle.lists.proofs.Tests.{tests, none_of, without, as_true, as_false, all_both, all_map, map_back, map_undo}
use Rattle.lists.proofs.Tests.{filter-append, filter-all, filter_none, take_until-none}
use Rattle.task.proofs.Passing.{Passes, literal_passes, condition_passes, changes_pass, effects_pass, opening_passes, conditions_of, side_rows}
use Rattle.task.proofs.Passing.{step_rows, sides_pass}
use Rattle.task.proofs.Hard.{soft_back, hard_back}

-- Cutting

abbrev part : Row → List Row → Part
part x xs = record { head = x; body = xs }

abbrev parted : List Row → List Part → Parts
parted xs ps = record { before = xs; parts = ps }

module _ (p : Row → Bool) where
  cut-none : (xs ys : List Row) → T (none_of p xs) → cut p (xs ++ ys) ≡ parted (xs ++ (cut p ys).before) (cut p ys).parts
  cut-none [] ys t = refl
  cut-none (x ∷ xs) ys t = rw (as_false (p x) (search tests), cut-none xs ys (search tests))

  cut_only : (xs : List Row) → T (none_of p xs) → cut p xs ≡ parted xs []
  cut_only xs t =
      let e : cut p (xs ++ []) ≡ parted (xs ++ []) [] = cut-none xs [] t in
      cc (append-nil xs)

  module _ {A : Type 0} (h : A → Row) (b : A → List Row) (heads : (a : A) → T (p (h a)))
      (bodies : (a : A) → T (none_of p (b a))) where
    cut_many : (l : List A) (rest : List Row) (ps : List Part) → cut p rest ≡ parted [] ps
        → cut p (concat_map (λ (a : A). h a ∷ b a) l ++ rest) ≡ parted [] (map (λ (a : A). part (h a) (b a)) l ++ ps)
    cut_many [] rest ps e = e
    cut_many (a ∷ l) rest ps e =
        let more : List Row = concat_map (λ (a : A). h a ∷ b a) l in
        let i : cut p (more ++ rest) ≡ parted [] (map (λ (a : A). part (h a) (b a)) l ++ ps) = cut_many l rest ps e in
        cc (as_true (p (h a)) (heads a), append_assoc (b a) more rest, cut-none (b a) (more ++ rest) (bodies a), append-nil (b a))

    cut_all : (l : List A) → cut p (concat_map (λ (a : A). h a ∷ b a) l) ≡ parted [] (map (λ (a : A). part (h a) (b a)) l)
    cut_all l =
        let spelled : List Row = concat_map (λ (a : A). h a ∷ b a) l in
        let ps : List Part = map (λ (a : A). part (h a) (b a)) l in
        let e : cut p (spelled ++ []) ≡ parted [] (ps ++ []) = cut_many l [] [] refl in
        cc (append-nil spelled, append-nil ps)

-- Each piece read back

literal_back : (l : Literal) → literal_of (literal_row l) ≡ l
literal_back l = go l.holds l.fact
  where
    go : (b : Bool) (n : ℕ) → literal_of (row (cond b HOLDS LACKS) n) ≡ record { holds = b; fact = n }
    go true n = refl
    go false n = refl

clause_part : Clause → Part
clause_part c = part (row CLAUSE 0) (map literal_row c)

condition_cut : (c : Condition) → cut (has_mark CLAUSE) (condition_rows c) ≡ parted [] (map clause_part c)
unfolding clause_part
condition_cut =
    cut_all (has_mark CLAUSE) (λ (k : Clause). row CLAUSE 0) (λ (k : Clause). map literal_row k) (λ k. tt)
    (λ k. all_map (without (has_mark CLAUSE)) literal_row (literal_passes (without (has_mark CLAUSE)) (λ v. tt) (λ v. tt)) k)

pub condition_back : (c : Condition) → condition_of (condition_rows c) ≡ c
unfolding clause_part
condition_back c =
    rw (condition_cut c)
    (map_undo clause_part (λ (s : Part). map literal_of s.body) (λ k. map_undo literal_row literal_of literal_back k) c)

-- Effects

abbrev change_rows : Effect → List Row
change_rows e = condition_rows e.condition ++ map (row ADD) e.adds ++ map (row DELETE) e.deletes

abbrev effect_part : Effect → Part
effect_part e = part (row EFFECT 0) (change_rows e)

no_condition : (adds deletes : List ℕ) → take_until is_change (map (row ADD) adds ++ map (row DELETE) deletes) ≡ []
no_condition [] [] = refl
no_condition [] (n ∷ ns) = refl
no_condition (n ∷ ns) deletes = refl

condition_take_until : (c : Condition) (adds deletes : List ℕ)
    → take_until is_change (condition_rows c ++ map (row ADD) adds ++ map (row DELETE) deletes) ≡ condition_rows c
condition_take_until c adds deletes =
    let rest : List Row = map (row ADD) adds ++ map (row DELETE) deletes in
    let e : take_until is_change (condition_rows c ++ rest) ≡ condition_rows c ++ take_until is_change rest =
    take_until-none is_change (condition_rows c) rest
    (condition_passes (without is_change) (λ v. tt) (λ v. tt) (λ v. tt) c) in
    cc (
      append_assoc (condition_rows c) (map (row ADD) adds) (map (row DELETE) deletes),
      no_condition adds deletes,
      append-nil (condition_rows c),
    )

values_back : (m : ℕ) (ns : List ℕ) → values (map (row m) ns) ≡ ns
values_back m ns = map_undo (row m) (λ (x : Row). x.value) (λ n. refl) ns

module _ (c : Condition) (adds deletes : List ℕ) where
  adds_back : values (filter (has_mark ADD) (condition_rows c ++ map (row ADD) adds ++ map (row DELETE) deletes)) ≡ adds
  adds_back =
      simp (
        filter-append,
        filter_none (has_mark ADD) (condition_rows c) (condition_passes (without (has_mark ADD)) (λ v. tt) (λ v. tt) (λ v. tt) c),
        filter-all (has_mark ADD) (map (row ADD) adds) (all_map (has_mark ADD) (row ADD) (λ v. tt) adds),
        filter_none (has_mark ADD) (map (row DELETE) deletes) (all_map (without (has_mark ADD)) (row DELETE) (λ v. tt) deletes),
        append-nil,
        values_back,
      )

  deletes_back : values (filter (has_mark DELETE) (condition_rows c ++ map (row ADD) adds ++ map (row DELETE) deletes)) ≡ deletes
  deletes_back =
      simp (
        filter-append,
        filter_none (has_mark DELETE) (condition_rows c) (condition_passes (without (has_mark DELETE)) (λ v. tt) (λ v. tt) (λ v. tt) c),
        filter_none (has_mark DELETE) (map (row ADD) adds) (all_map (without (has_mark DELETE)) (row ADD) (λ v. tt) adds),
        filter-all (has_mark DELETE) (map (row DELETE) deletes) (all_map (has_mark DELETE) (row DELETE) (λ v. tt) deletes),
        values_back,
      )

effect_back : (e : Effect) → effect_of (effect_part e) ≡ e
effect_back e =
    λ i. record {
      condition = (ap condition_of (condition_take_until e.condition e.adds e.deletes) ∙ condition_back e.condition) i;
      adds = adds_back e.condition e.adds e.deletes i;
      deletes = deletes_back e.condition e.adds e.deletes i;
    }

effects_cut : (es : List Effect) → cut (has_mark EFFECT) (concat_map effect_rows es) ≡ parted [] (map effect_part es)
effects_cut =
    cut_all (has_mark EFFECT) (λ (e : Effect). row EFFECT 0) change_rows (λ e. tt)
    (λ e. changes_pass (without (has_mark EFFECT)) (λ v. tt) (λ v. tt) (λ v. tt) (λ v. tt) (λ v. tt) e.condition e.adds e.deletes)

-- Actions

abbrev action_part : Action → Part
action_part a = part (row ACTION a.cost) (step_rows a)

action_cut : (c : Condition) (es : List Effect)
    → cut (has_mark EFFECT) (condition_rows c ++ concat_map effect_rows es) ≡ parted (condition_rows c) (map effect_part es)
action_cut c es =
    let t : T (none_of (has_mark EFFECT) (condition_rows c)) = condition_passes (without (has_mark EFFECT)) (λ v. tt) (λ v. tt) (λ v. tt) c in
    cc (cut-none (has_mark EFFECT) (condition_rows c) (concat_map effect_rows es) t, effects_cut es, append-nil (condition_rows c))

action_back : (a : Action) → action_of (action_part a) ≡ a
action_back a =
    λ i. record {
      cost = a.cost;
      precondition = (ap (λ (r : Parts). condition_of r.before) (action_cut a.precondition a.effects)
          ∙ condition_back a.precondition) i;
      effects = (ap (λ (r : Parts). map effect_of r.parts) (action_cut a.precondition a.effects)
          ∙ map_undo effect_part effect_of effect_back a.effects) i;
    }

-- Preferences

abbrev pub opening_row : Preference → Row
opening_row q = row (opening_mark q.hard q.kind) q.weight

abbrev preference_part : Preference → Part
preference_part q = part (opening_row q) (side_rows q)

-- with the steps from after its row, where it has them
pub kind_back : (k : Kind) (xs : List Row) → kind_of (kind_mark k) (get_or (values (steps_rows k ++ xs)) 0 0) ≡ k
kind_back always xs = refl
kind_back sometime xs = refl
kind_back at_end xs = refl
kind_back at_most_once xs = refl
kind_back sometime_before xs = refl
kind_back sometime_after xs = refl
kind_back (within t) xs = refl
kind_back (always_within t) xs = refl

abbrev sides_of : Parts → record { first : Condition; second : Condition }
sides_of r = record { first = condition_of r.before; second = concat_map (λ (s : Part). condition_of s.body) r.parts }

-- no row of a condition is a SECOND
no_second : (c : Condition) → T (none_of (has_mark SECOND) (condition_rows c))
no_second = condition_passes (without (has_mark SECOND)) (λ v. tt) (λ v. tt) (λ v. tt)

-- no condition begins with its STEPS row
steps_aside : (k : Kind) (xs : List Row) → sides_of (cut (has_mark SECOND) (steps_rows k ++ xs)) ≡ sides_of (cut (has_mark SECOND) xs)
steps_aside always xs = refl
steps_aside sometime xs = refl
steps_aside at_end xs = refl
steps_aside at_most_once xs = refl
steps_aside sometime_before xs = refl
steps_aside sometime_after xs = refl
steps_aside (within t) xs = refl
steps_aside (always_within t) xs = refl

-- what is cut after φ, with φ's rows in front
abbrev after_first : Condition → Parts → Parts
after_first φ r = parted (condition_rows φ ++ r.before) r.parts

sides_back : (b : Bool) (φ ψ : Condition) → T (b || is_empty ψ)
    → sides_of (cut (has_mark SECOND) (condition_rows φ ++ cond b (row SECOND 0 ∷ condition_rows ψ) [])) ≡ record { first = φ; second = ψ }
sides_back b φ ψ t = rw (cut-none (has_mark SECOND) (condition_rows φ) (cond b (row SECOND 0 ∷ condition_rows ψ) []) (no_second φ)) (go b ψ t)
  where
    φ_back : condition_of (condition_rows φ ++ []) ≡ φ
    φ_back = ap condition_of (append-nil (condition_rows φ)) ∙ condition_back φ

    go : (b : Bool) (ψ : Condition) → T (b || is_empty ψ)
        → sides_of (after_first φ (cut (has_mark SECOND) (cond b (row SECOND 0 ∷ condition_rows ψ) []))) ≡ record { first = φ; second = ψ }
    go true ψ t =
        rw (cut_only (has_mark SECOND) (condition_rows ψ) (no_second ψ))
        (λ i. record { first = φ_back i; second = (append-nil (condition_of (condition_rows ψ)) ∙ condition_back ψ) i })
    go false [] t = λ i. record { first = φ_back i; second = [] }
    go false (c ∷ ψ) t = absurd t

preference_back : (q : Preference) → T (two_sided q.kind || is_empty q.second) → preference_of (preference_part q) ≡ q
preference_back q t =
    let e : sides_of (cut (has_mark SECOND) (side_rows q)) ≡ record { first = q.first; second = q.second } =
    steps_aside q.kind (conditions_of q) ∙ sides_back (two_sided q.kind) q.first q.second t in
    let steps : ℕ = get_or (values (side_rows q)) 0 0 in
    λ i. record {
      kind = (ap (λ (m : ℕ). kind_of m steps) (soft_back q.hard q.kind) ∙ kind_back q.kind (conditions_of q)) i;
      hard = hard_back q.hard q.kind i;
      weight = q.weight;
      first = (e i).first;
      second = (e i).second;
    }

-- Sections

kind_section : (h : Bool) (k : Kind) → Passes is_section (opening_mark h k)
kind_section = opening_passes is_section (λ v. tt)

no_section : (c : Condition) → T (none_of is_section (condition_rows c))
no_section = condition_passes (without is_section) (λ v. tt) (λ v. tt) (λ v. tt)

preferences_cut : (qs : List Preference) → sections (concat_map preference_rows qs) ≡ parted [] (map preference_part qs)
preferences_cut = cut_all is_section opening_row side_rows (λ q. kind_section q.hard q.kind q.weight)
    (sides_pass (without is_section) (λ v. tt) (λ v. tt) (λ v. tt) (λ v. tt) (λ v. tt))

actions_cut : (l : List Action) (qs : List Preference)
    → sections (concat_map action_rows l ++ concat_map preference_rows qs) ≡ parted [] (map action_part l ++ map preference_part qs)
actions_cut l qs =
    cut_many is_section (λ (a : Action). row ACTION a.cost) step_rows (λ a. tt)
    (λ a. all_both (without is_section) (condition_rows a.precondition) (concat_map effect_rows a.effects)
    (no_section a.precondition)
    (effects_pass (without is_section) (λ v. tt) (λ v. tt) (λ v. tt) (λ v. tt) (λ v. tt) (λ v. tt) a.effects))
    l (concat_map preference_rows qs) (map preference_part qs) (preferences_cut qs)

goal_part : Condition → Part
goal_part c = part (row GOAL 0) (condition_rows c)

-- GOAL, its condition, the actions and the preferences
abbrev pub from_goal : Task → List Row
from_goal t =
    row GOAL 0 ∷ (condition_rows t.goal ++ (concat_map action_rows t.actions ++ concat_map preference_rows t.preferences))

pub task_grouped : (t : Task) → task_rows t ≡ map (row START) t.start ++ from_goal t
task_grouped t = simp append_assoc

task_cut : (t : Task)
    → sections (task_rows t) ≡ parted (map (row START) t.start)
    (goal_part t.goal ∷ (map action_part t.actions ++ map preference_part t.preferences))
unfolding goal_part
task_cut t =
    let starts : List Row = map (row START) t.start in
    let goals : List Row = condition_rows t.goal in
    let rest : List Row = concat_map action_rows t.actions ++ concat_map preference_rows t.preferences in
    let parts : List Part = map action_part t.actions ++ map preference_part t.preferences in
    let goal_cut : sections (goals ++ rest) ≡ parted (goals ++ []) parts =
    cut-none is_section goals rest (no_section t.goal)
    ∙ ap (λ (r : Parts). parted (goals ++ r.before) r.parts) (actions_cut t.actions t.preferences) in
    ap sections (task_grouped t)
    ∙ cut-none is_section starts (from_goal t) (all_map (without is_section) (row START) (λ v. tt) t.start)
    ∙ ap (λ (r : Parts). parted (starts ++ []) (part (row GOAL 0) r.before ∷ r.parts)) goal_cut
    ∙ (λ i. parted (append-nil starts i) (part (row GOAL 0) (append-nil goals i) ∷ parts))

-- a preference's head row is that and no other section's
kind_only : (h : Bool) (k : Kind) → Passes (λ (x : Row). is_preference x && not (has_mark GOAL x) && not (has_mark ACTION x)) (opening_mark h k)
kind_only =
    opening_passes (λ (x : Row). is_preference x && not (has_mark GOAL x) && not (has_mark ACTION x)) (λ v. tt)

abbrev head_is : (Row → Bool) → Part → Bool
head_is p s = p s.head

module _ (l : List Action) (qs : List Preference) where
  filter_goal : filter (head_is (has_mark GOAL)) (map action_part l ++ map preference_part qs) ≡ []
  filter_goal =
      simp (
        filter-append,
        filter_none (head_is (has_mark GOAL)) (map action_part l) (all_map (without (head_is (has_mark GOAL))) action_part (λ a. tt) l),
        filter_none (head_is (has_mark GOAL)) (map preference_part qs)
            (all_map (without (head_is (has_mark GOAL))) preference_part (λ q. let k = kind_only q.hard q.kind q.weight in search tests) qs),
      )

  filter_actions : filter (head_is (has_mark ACTION)) (map action_part l ++ map preference_part qs) ≡ map action_part l
  filter_actions =
      simp (
        filter-append,
        filter-all (head_is (has_mark ACTION)) (map action_part l) (all_map (head_is (has_mark ACTION)) action_part (λ a. tt) l),
        filter_none (head_is (has_mark ACTION)) (map preference_part qs)
            (all_map (without (head_is (has_mark ACTION))) preference_part (λ q. let k = kind_only q.hard q.kind q.weight in search tests) qs),
        append-nil,
      )

  filter_preferences : filter (head_is is_preference) (map action_part l ++ map preference_part qs) ≡ map preference_part qs
  filter_preferences =
      simp (
        filter-append,
        filter_none (head_is is_preference) (map action_part l) (all_map (without (head_is is_preference)) action_part (λ a. tt) l),
        filter-all (head_is is_preference) (map preference_part qs)
            (all_map (head_is is_preference) preference_part (λ q. let k = kind_only q.hard q.kind q.weight in search tests) qs),
      )

-- each preference of a kind with one condition has no second
abbrev pub one_sided : Task → Bool
one_sided t = all (λ (q : Preference). two_sided q.kind || is_empty q.second) t.preferences

pub task_back : (t : Task) → T (one_sided t) → task_of_rows t.facts (task_rows t) ≡ t
unfolding goal_part
task_back t ok = rw (task_cut t) (λ i. record {
  facts = t.facts;
  start = values_back START t.start i;
  goal =
      (ap (λ (ps : List Part). condition_of_goal ++ concat_map (λ (s : Part). condition_of s.body) ps)
      (filter_goal t.actions t.preferences)
      ∙ append-nil condition_of_goal ∙ condition_back t.goal) i;
  actions = (ap (map action_of) (filter_actions t.actions t.preferences)
      ∙ map_undo action_part action_of action_back t.actions) i;
  preferences = (ap (map preference_of) (filter_preferences t.actions t.preferences)
      ∙ map_back (λ (q : Preference). two_sided q.kind || is_empty q.second) preference_part preference_of preference_back
      t.preferences ok) i;
})
  where
    condition_of_goal : Condition
    condition_of_goal = condition_of (condition_rows t.goal)
