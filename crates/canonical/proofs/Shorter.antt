-- The one spelling of a task has no more rows than the task.
use mathlib.Core.Path.{◌≡◌, refl}
use mathlib.Core.Bool.{Bool, true, false, cond, ◌&&◌, ◌||◌, beq}
use mathlib.Core.List.{List, [], ◌∷◌, ◌++◌, map}
use Prim.Native.Nat.{ℕ, zero, suc, ◌+◌, ◌≤◌, ◌<◌}
use native.Mathlib.Nat.{le_refl}
use native.Mathlib.Omega.{arith}
use lib.Dec.{eqb}
use lib.ListN.{length, length-append, length-map}
use borrow.Author.Tests.{eqb-true, ne_eqb}
use Rattle.lists.specs.Lists.{any, filter, concat_map, range}
use Rattle.task.specs.Marks.{ACTION, EFFECT, ADD, DELETE, START, GOAL, SECOND}
use Rattle.meaning.specs.Task.{Literal, Clause, Condition, Effect, Action, Preference, Task, two_sided}
use Rattle.task.specs.TaskRows.{Row, row, steps_rows, opening_mark, literal_row, clause_rows}
use Rattle.task.specs.TaskRows.{condition_rows, effect_rows, action_rows, preference_rows, task_rows}
use Rattle.canonical.specs.Canonical.{in_order, literal, same_literal, both_literals, literals, canonical_clause, canonical_facts, canonical_condition, canonical_effect}
use Rattle.canonical.specs.Canonical.{canonical_action, canonical_preference, canonical}

-- How many pass a test

module _ {A : Type 0} where
  abbrev passing : (A → Bool) → List A → ℕ
  passing p xs = length (filter p xs)

  passing_none : (xs : List A) → passing (λ (x : A). false) xs ≡ 0
  passing_none [] = refl
  passing_none (x ∷ xs) = passing_none xs

  passing_either : (p q : A → Bool) (xs : List A) → passing (λ (x : A). p x || q x) xs ≤ passing p xs + passing q xs
  passing_either p q [] = omega arith
  passing_either p q (x ∷ xs) = go (p x) (q x) (passing_either p q xs)
    where
      go : (a b : Bool) → passing (λ (x : A). p x || q x) xs ≤ passing p xs + passing q xs
          → length (cond (a || b) (x ∷ filter (λ (x : A). p x || q x) xs) (filter (λ (x : A). p x || q x) xs))
          ≤ length (cond a (x ∷ filter p xs) (filter p xs)) + length (cond b (x ∷ filter q xs) (filter q xs))
      go true true h = omega arith
      go true false h = omega arith
      go false true h = omega arith
      go false false h = h

  -- where each stands once in the order
  in_order_shorter : (same : A → A → Bool) (order : List A) → ((x : A) → passing (λ (y : A). same y x) order ≤ 1) → (xs : List A)
      → length (in_order same order xs) ≤ length xs
  in_order_shorter same order once [] = omega (arith, passing_none order)
  in_order_shorter same order once (x ∷ xs) =
      omega (
        arith,
        passing_either (λ (y : A). same y x) (λ (y : A). any (same y) xs) order,
        once x,
        in_order_shorter same order once xs,
      )

number_later : (n k m : ℕ) → n < k → passing (λ (i : ℕ). eqb i n) (range k m) ≡ 0
number_later n k zero h = refl
number_later n k (suc m) h =
    rw (ne_eqb k n (omega arith)) (number_later n (k + 1) m (omega arith))

number_once : (n k m : ℕ) → passing (λ (i : ℕ). eqb i n) (range k m) ≤ 1
number_once n k zero = omega arith
number_once n k (suc m) = go (eqb k n) refl (number_once n (k + 1) m)
  where
    go : (b : Bool) → eqb k n ≡ b → passing (λ (i : ℕ). eqb i n) (range (k + 1) m) ≤ 1
        → length (cond b (k ∷ filter (λ (i : ℕ). eqb i n) (range (k + 1) m)) (filter (λ (i : ℕ). eqb i n) (range (k + 1) m))) ≤ 1
    go true e h = let same : k ≡ n = eqb-true k n e in omega (arith, number_later n (k + 1) m (omega arith))
    go false e h = h

-- literals on facts are passed as often as the facts
module _ (b : Bool) (f : ℕ) where
  abbrev is_literal : Literal → Bool
  is_literal l = beq l.holds b && eqb l.fact f

  literal_like_fact : (ns : List ℕ) → passing is_literal (concat_map both_literals ns) ≤ passing (λ (n : ℕ). eqb n f) ns
  literal_like_fact [] = omega arith
  literal_like_fact (n ∷ ns) =
      go b (eqb n f) (filter is_literal (concat_map both_literals ns)) (filter (λ (n : ℕ). eqb n f) ns) (literal_like_fact ns)
    where
      go : (c e : Bool) (ls : List Literal) (ms : List ℕ) → length ls ≤ length ms
          → length (cond (beq true c && e)
          (literal true n ∷ cond (beq false c && e) (literal false n ∷ ls) ls)
          (cond (beq false c && e) (literal false n ∷ ls) ls))
          ≤ length (cond e (n ∷ ms) ms)
      go true true ls ms h = omega arith
      go true false ls ms h = h
      go false true ls ms h = omega arith
      go false false ls ms h = h

facts_shorter : (F : ℕ) (ns : List ℕ) → length (canonical_facts F ns) ≤ length ns
facts_shorter F = in_order_shorter eqb (range 0 F) (λ n. number_once n 0 F)

clause_shorter : (F : ℕ) (c : Clause) → length (canonical_clause F c) ≤ length c
clause_shorter F =
    in_order_shorter same_literal (literals F)
    (λ l. omega (arith, literal_like_fact l.holds l.fact (range 0 F), number_once l.fact 0 F))

-- Rows

module _ {A B : Type 0} where
  map_shorter : (f : A → B) (xs ys : List A) → length xs ≤ length ys → length (map f xs) ≤ length (map f ys)
  map_shorter f xs ys h = omega (arith, length-map xs f, length-map ys f)

  concat_shorter : (f : A → List B) (g : A → A) → ((x : A) → length (f (g x)) ≤ length (f x)) → (xs : List A)
      → length (concat_map f (map g xs)) ≤ length (concat_map f xs)
  concat_shorter f g h [] = omega arith
  concat_shorter f g h (x ∷ xs) =
      omega (
        arith,
        length-append (f (g x)) (concat_map f (map g xs)),
        length-append (f x) (concat_map f xs),
        h x,
        concat_shorter f g h xs,
      )

append_shorter : (xs xs' ys ys' : List Row) → length xs ≤ length xs' → length ys ≤ length ys' → length (xs ++ ys) ≤ length (xs' ++ ys')
append_shorter xs xs' ys ys' h k = omega (arith, length-append xs ys, length-append xs' ys')

module _ (F : ℕ) where
  condition_shorter : (c : Condition) → length (condition_rows (canonical_condition F c)) ≤ length (condition_rows c)
  condition_shorter =
      concat_shorter clause_rows (canonical_clause F)
      (λ c. omega (arith, map_shorter literal_row (canonical_clause F c) c (clause_shorter F c)))

  effect_shorter : (e : Effect) → length (effect_rows (canonical_effect F e)) ≤ length (effect_rows e)
  effect_shorter e =
      let c : List Row = row EFFECT 0 ∷ condition_rows (canonical_condition F e.condition) in
      let c' : List Row = row EFFECT 0 ∷ condition_rows e.condition in
      let a : List Row = map (row ADD) (canonical_facts F e.adds) in
      let a' : List Row = map (row ADD) e.adds in
      append_shorter (c ++ a) (c' ++ a') (map (row DELETE) (canonical_facts F e.deletes)) (map (row DELETE) e.deletes)
      (append_shorter c c' a a' (omega (arith, condition_shorter e.condition))
      (map_shorter (row ADD) (canonical_facts F e.adds) e.adds (facts_shorter F e.adds)))
      (map_shorter (row DELETE) (canonical_facts F e.deletes) e.deletes (facts_shorter F e.deletes))

  action_shorter : (a : Action) → length (action_rows (canonical_action F a)) ≤ length (action_rows a)
  action_shorter a =
      append_shorter (row ACTION a.cost ∷ condition_rows (canonical_condition F a.precondition))
      (row ACTION a.cost ∷ condition_rows a.precondition)
      (concat_map effect_rows (map (canonical_effect F) a.effects)) (concat_map effect_rows a.effects)
      (omega (arith, condition_shorter a.precondition))
      (concat_shorter effect_rows (canonical_effect F) effect_shorter a.effects)

  abbrev second_rows : Bool → Condition → List Row
  second_rows b c = cond b (row SECOND 0 ∷ condition_rows c) []

  second_shorter : (b : Bool) (c : Condition) → length (second_rows b (canonical_condition F c)) ≤ length (second_rows b c)
  second_shorter true c = omega (arith, condition_shorter c)
  second_shorter false c = omega arith

  preference_shorter : (q : Preference) → length (preference_rows (canonical_preference F q)) ≤ length (preference_rows q)
  preference_shorter q =
      let head : List Row = row (opening_mark q.hard q.kind) q.weight ∷ steps_rows q.kind in
      let c : List Row = condition_rows (canonical_condition F q.first) in
      let c' : List Row = condition_rows q.first in
      let d : List Row = second_rows (two_sided q.kind) (canonical_condition F q.second) in
      let d' : List Row = second_rows (two_sided q.kind) q.second in
      append_shorter head head (c ++ d) (c' ++ d') (le_refl (length head))
      (append_shorter c c' d d' (condition_shorter q.first) (second_shorter (two_sided q.kind) q.second))

pub canonical_shorter : (t : Task) → length (task_rows (canonical t)) ≤ length (task_rows t)
unfolding canonical
canonical_shorter t =
    let F : ℕ = t.facts in
    let s : List Row = map (row START) t.start in
    let g : List Row = row GOAL 0 ∷ condition_rows (canonical_condition F t.goal) in
    let g' : List Row = row GOAL 0 ∷ condition_rows t.goal in
    let a : List Row = concat_map action_rows (map (canonical_action F) t.actions) in
    let a' : List Row = concat_map action_rows t.actions in
    let p : List Row = concat_map preference_rows (map (canonical_preference F) t.preferences) in
    let p' : List Row = concat_map preference_rows t.preferences in
    append_shorter (s ++ g ++ a) (s ++ g' ++ a') p p'
    (append_shorter (s ++ g) (s ++ g') a a'
    (append_shorter s s g g' (le_refl (length s)) (omega (arith, condition_shorter F t.goal)))
    (concat_shorter action_rows (canonical_action F) (action_shorter F) t.actions))
    (concat_shorter preference_rows (canonical_preference F) (preference_shorter F) t.preferences)
