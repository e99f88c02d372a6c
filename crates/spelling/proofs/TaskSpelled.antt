-- The rows of a task, spelled row by row, are the rows of its one spelling.
use mathlib.Core.Path.{◌≡◌, refl, sym, ap, ◌∙◌, subst, fun_ext}
use mathlib.Core.Bool.{Bool, true, false, not, cond, ◌&&◌, ◌||◌, true≢false, and-false, or-false, or_assoc}
use mathlib.Core.List.{List, [], ◌∷◌, ◌++◌, map, append_assoc, append-nil, map-append}
use Prim.Native.Nat.{ℕ, ◌+◌, ◌-◌, ◌<◌, ◌≤◌}
use native.Mathlib.Omega.{arith}
use lib.Dec.{T, leb, eqb, ltb, ltb→lt}
use borrow.Author.Tests.{lt-ltb, ne_eqb, le-leb, leb-true}
use Rattle.lists.specs.Lists.{all, any, filter, elem, concat_map, range}
use Rattle.lists.proofs.Tests.{tests, all_map, as_true, as_t, both_true}
use Rattle.meaning.specs.Task.{Literal, Clause, Condition, Effect, Action, Preference, Task, two_sided, condition_below, facts_below, effect_below, action_below}
use Rattle.meaning.specs.Task.{preference_below, well_formed, Kind, always, sometime, at_end, at_most_once, sometime_before, sometime_after, within, always_within}
use Rattle.meaning.specs.Meaning.{State as Facts}
use Rattle.task.specs.Marks.{ACTION, EFFECT, CLAUSE, HOLDS, LACKS, ADD, DELETE, GOAL, START, SECOND, STEPS}
use Rattle.task.specs.TaskRows.{Row, row, opening_mark, steps_rows, literal_row, clause_rows, condition_rows, effect_rows, action_rows, preference_rows, task_rows}
use Rattle.task.specs.Rows.{between, Stops}
use Rattle.task.proofs.Reading.{fold, passes}
use Rattle.state.specs.Member.{single, empty}
use Rattle.canonical.specs.Canonical.{literal, literals, canonical_clause, canonical_facts, canonical_condition, canonical_effect, canonical_action, canonical_preference, canonical}
use Rattle.canonical.specs.BySets.{holds_in, lacks_in, when}
use Rattle.canonical.proofs.BySets.{clause_by_sets, facts_by_set_lem}
use Rattle.spelling.specs.Runs.{is_listed, first_mark, second_mark, Sets, none, joined, take_in, fact_rows, rising_rows}
use Rattle.spelling.specs.Spelled.{outside, inside, spelled_from, spelled_rows}
use Rattle.spelling.proofs.RisingRows.{range_parts}

abbrev spelled : List Row → List Row
spelled = spelled_from outside

-- A run and what stands after it

module _ (a b : ℕ) where
  through : (s : Sets) (xs ys : List Row) → T (all (passes (between a b)) xs) → Stops (between a b) ys
      → spelled_from (inside a b s) (xs ++ ys) ≡ rising_rows a b (fold (take_in a) s xs) ++ spelled ys
  through s [] [] t h = sym (append-nil (rising_rows a b s))
  through s [] (y ∷ ys) t h = rw h
  through s (x ∷ xs) ys t h = rw (as_true (between a b x.mark) (search tests)) (through (take_in a s x) xs ys (search tests) h)

-- The sets of a run

-- facts below 128 are as they are named
single_is : (n m : ℕ) → n < 128 → single n m ≡ eqb m n
single_is n m h = rw (lt-ltb n 128 h)

abbrev no_rows : ℕ → List Row
no_rows n = []

nothing : (ns : List ℕ) → concat_map no_rows ns ≡ []
nothing [] = refl
nothing (n ∷ ns) = nothing ns

-- a row of mark a is in the first set
module _ (a : ℕ) (e : eqb a a ≡ true) where
  first_with : (s : Sets) (n m : ℕ) → n < 128 → (take_in a s (row a n)).first m ≡ (s.first m || eqb m n)
  first_with s n m h = ap (λ (b : Bool). joined b s.first n m) e ∙ ap (λ (x : Bool). s.first m || x) (single_is n m h)

  second_kept : (s : Sets) (n m : ℕ) → (take_in a s (row a n)).second m ≡ s.second m
  second_kept s n m = ap (λ (b : Bool). joined (not b) s.second n m) e

  module _ (F : ℕ) (few : F ≤ 128) where
    facts_first : (s : Sets) (ns : List ℕ) (m : ℕ) → T (facts_below F ns) → (fold (take_in a) s (map (row a) ns)).first m ≡ (s.first m || elem m ns)
    facts_first s [] m t = sym (or-false (s.first m))
    facts_first s (n ∷ ns) m t =
        let h : n < 128 = omega (arith, ltb→lt n F (search tests)) in
        facts_first (take_in a s (row a n)) ns m (search tests)
        ∙ ap (λ (x : Bool). x || elem m ns) (first_with s n m h)
        ∙ or_assoc (s.first m) (eqb m n) (elem m ns)

    facts_second : (s : Sets) (ns : List ℕ) (m : ℕ) → (fold (take_in a) s (map (row a) ns)).second m ≡ s.second m
    facts_second s [] m = refl
    facts_second s (n ∷ ns) m = facts_second (take_in a s (row a n)) ns m ∙ second_kept s n m

module _ (F : ℕ) (few : F ≤ 128) where
  -- one literal
  literal_first : (s : Sets) (b : Bool) (n m : ℕ) → n < 128
      → joined (eqb (cond b HOLDS LACKS) HOLDS) s.first n m ≡ (s.first m || b && eqb m n)
  literal_first s true n m h = ap (λ (x : Bool). s.first m || x) (single_is n m h)
  literal_first s false n m h = sym (or-false (s.first m))

  literal_second : (s : Sets) (b : Bool) (n m : ℕ) → n < 128
      → joined (not (eqb (cond b HOLDS LACKS) HOLDS)) s.second n m ≡ (s.second m || not b && eqb m n)
  literal_second s true n m h = sym (or-false (s.second m))
  literal_second s false n m h = ap (λ (x : Bool). s.second m || x) (single_is n m h)

  abbrev below : Literal → Bool
  below l = ltb l.fact F

  literals_first : (s : Sets) (c : Clause) (m : ℕ) → T (all below c) → (fold (take_in HOLDS) s (map literal_row c)).first m ≡ (s.first m || holds_in c m)
  literals_first s [] m t = sym (or-false (s.first m))
  literals_first s (l ∷ c) m t =
      let h : l.fact < 128 = omega (arith, ltb→lt l.fact F (search tests)) in
      literals_first (take_in HOLDS s (literal_row l)) c m (search tests)
      ∙ ap (λ (x : Bool). x || holds_in c m) (literal_first s l.holds l.fact m h)
      ∙ or_assoc (s.first m) (l.holds && eqb m l.fact) (holds_in c m)

  literals_second : (s : Sets) (c : Clause) (m : ℕ) → T (all below c) → (fold (take_in HOLDS) s (map literal_row c)).second m ≡ (s.second m || lacks_in c m)
  literals_second s [] m t = sym (or-false (s.second m))
  literals_second s (l ∷ c) m t =
      let h : l.fact < 128 = omega (arith, ltb→lt l.fact F (search tests)) in
      literals_second (take_in HOLDS s (literal_row l)) c m (search tests)
      ∙ ap (λ (x : Bool). x || lacks_in c m) (literal_second s l.holds l.fact m h)
      ∙ or_assoc (s.second m) (not l.holds && eqb m l.fact) (lacks_in c m)

  -- no fact from F on is named
  none_named : (ns : List ℕ) (m : ℕ) → T (facts_below F ns) → F ≤ m → elem m ns ≡ false
  none_named [] m t h = refl
  none_named (n ∷ ns) m t h =
      let l : n < F = ltb→lt n F (search tests) in
      rw (ne_eqb m n (λ e. omega arith)) (none_named ns m (search tests) h)

  none_said : (p : Bool → Bool) (c : Clause) (m : ℕ) → T (all below c) → F ≤ m → any (λ (l : Literal). p l.holds && eqb m l.fact) c ≡ false
  none_said p [] m t h = refl
  none_said p (l ∷ c) m t h =
      let k : l.fact < F = ltb→lt l.fact F (search tests) in
      rw (ne_eqb m l.fact (λ e. omega arith), and-false (p l.holds)) (none_said p c m (search tests) h)

  -- Rows by rising fact, of facts below F

  module _ (a b : ℕ) (f g : Facts) (no_f : (m : ℕ) → F ≤ m → f m ≡ false) (no_g : (m : ℕ) → F ≤ m → g m ≡ false) where
    abbrev at : ℕ → List Row
    at n = fact_rows a b (f n) (g n) n

    rising_below : rising_rows a b (record { first = f; second = g }) ≡ concat_map at (range 0 F)
    unfolding rising_rows
    rising_below =
        let all_of : F + (128 - F) ≡ 128 = omega arith in
        ap (λ (n : ℕ). concat_map at (range 0 n)) (sym all_of)
        ∙ range_parts at at no_rows F (128 - F) (λ i l. refl) (λ i l. λ z. fact_rows a b (no_f (F + i) (omega arith) z) (no_g (F + i) (omega arith) z) (F + i))
        ∙ ap (λ (xs : List Row). concat_map at (range 0 F) ++ xs) (nothing (range 0 (128 - F)))
        ∙ append-nil (concat_map at (range 0 F))

  module _ {A : Type 0} (f : A → Row) (h : ℕ → List A) where
    map_concat : (ns : List ℕ) → map f (concat_map h ns) ≡ concat_map (λ (n : ℕ). map f (h n)) ns
    map_concat [] = refl
    map_concat (n ∷ ns) = map-append f (h n) (concat_map h ns) ∙ ap (λ (xs : List Row). map f (h n) ++ xs) (map_concat ns)

  literal_rows : (x y : Bool) (n : ℕ) → map literal_row (when x (literal true n) ++ when y (literal false n)) ≡ fact_rows HOLDS LACKS x y n
  literal_rows true true n = refl
  literal_rows true false n = refl
  literal_rows false true n = refl
  literal_rows false false n = refl

  fact_rows_lem : (a : ℕ) (x : Bool) (n : ℕ) → map (row a) (when x n) ≡ fact_rows a a x false n
  fact_rows_lem a true n = refl
  fact_rows_lem a false n = refl

  clause_rows_lem : (c : Clause) → T (all below c) → rising_rows HOLDS LACKS (fold (take_in HOLDS) none (map literal_row c)) ≡ map literal_row (canonical_clause F c)
  clause_rows_lem c t =
      (λ i. rising_rows HOLDS LACKS (record { first = fun_ext (λ m. literals_first none c m t) i; second = fun_ext (λ m. literals_second none c m t) i }))
      ∙ rising_below HOLDS LACKS (holds_in c) (lacks_in c) (λ m h. none_said (λ (b : Bool). b) c m t h) (λ m h. none_said not c m t h)
      ∙ sym (ap (map literal_row) (clause_by_sets F c)
      ∙ map_concat literal_row (λ (n : ℕ). when (holds_in c n) (literal true n) ++ when (lacks_in c n) (literal false n)) (range 0 F)
      ∙ ap (λ (h : ℕ → List Row). concat_map h (range 0 F)) (fun_ext (λ n. literal_rows (holds_in c n) (lacks_in c n) n)))

  list_rows : (a : ℕ) → eqb a a ≡ true → (ns : List ℕ) → T (facts_below F ns)
      → rising_rows a a (fold (take_in a) none (map (row a) ns)) ≡ map (row a) (canonical_facts F ns)
  list_rows a e ns t =
      (λ i. rising_rows a a (record { first = fun_ext (λ m. facts_first a e F few none ns m t) i; second = fun_ext (λ m. facts_second a e F few none ns m) i }))
      ∙ rising_below a a (λ (m : ℕ). elem m ns) empty (λ m h. none_named ns m t h) (λ m h. refl)
      ∙ sym (ap (map (row a)) (facts_by_set_lem F ns)
      ∙ map_concat (row a) (λ (n : ℕ). when (elem n ns) n) (range 0 F)
      ∙ ap (λ (h : ℕ → List Row). concat_map h (range 0 F)) (fun_ext (λ n. fact_rows_lem a (elem n ns) n)))

-- Rows xs become ys, where what stands after them is ok

abbrev Becomes : (List Row → Type 0) → List Row → List Row → Type 0
Becomes ok xs ys = (zs : List Row) → ok zs → spelled (xs ++ zs) ≡ ys ++ spelled zs

-- no row of a mark from a to b comes first
abbrev pub Clear : ℕ → ℕ → List Row → Type 0
Clear a b = Stops (between a b)

abbrev Anything : List Row → Type 0
Anything zs = Unit {0}

then : {ok ok' : List Row → Type 0} (xs ys us vs : List Row) → Becomes ok xs ys → Becomes ok' us vs → ((zs : List Row) → ok' zs → ok (us ++ zs))
    → Becomes ok' (xs ++ us) (ys ++ vs)
then xs ys us vs p q h zs k =
    ap spelled (append_assoc xs us zs)
    ∙ p (us ++ zs) (h zs k)
    ∙ ap (λ (l : List Row). ys ++ l) (q zs k)
    ∙ sym (append_assoc ys vs (spelled zs))

-- a row that stands in no run
plain : {ok : List Row → Type 0} (x : Row) (xs ys : List Row) → is_listed x.mark ≡ false → Becomes ok xs ys → Becomes ok (x ∷ xs) (x ∷ ys)
plain x xs ys e p zs k = rw e (ap (λ (l : List Row). x ∷ l) (p zs k))

nothing_left : (ok : List Row → Type 0) → Becomes ok [] []
nothing_left ok zs k = refl

-- of fewer marks
pub narrower : (c d a b : ℕ) → c ≤ a → b ≤ d → (zs : List Row) → Clear c d zs → Clear a b zs
narrower c d a b l h [] k = tt
narrower c d a b l h (z ∷ zs) k = go (between a b z.mark) refl
  where
    go : (t : Bool) → between a b z.mark ≡ t → between a b z.mark ≡ false
    go true e =
        let both = both_true (leb a z.mark) (leb z.mark b) e in
        let least = leb-true a z.mark both.0 in
        let most = leb-true z.mark b both.1 in
        let inner : between c d z.mark ≡ true = rw (le-leb c z.mark (omega arith), le-leb z.mark d (omega arith)) in
        absurd (true≢false (sym inner ∙ k))
    go false e = e

-- parts one after the other, each with something ok after it
module _ {A : Type 0} (ok : List Row → Type 0) (fine : A → Bool) (f : A → List Row) (g : A → A)
    (each : (x : A) → T (fine x) → Becomes ok (f x) (f (g x))) (starts : (x : A) (zs : List Row) → ok (f x ++ zs)) where
  parts_ok : (xs : List A) (zs : List Row) → ok zs → ok (concat_map f xs ++ zs)
  parts_ok [] zs k = k
  parts_ok (x ∷ xs) zs k = subst ok (sym (append_assoc (f x) (concat_map f xs) zs)) (starts x (concat_map f xs ++ zs))

  parts : (xs : List A) → T (all fine xs) → Becomes ok (concat_map f xs) (concat_map f (map g xs))
  parts [] t = nothing_left ok
  parts (x ∷ xs) t =
      then (f x) (f (g x)) (concat_map f xs) (concat_map f (map g xs)) (each x (search tests)) (parts xs (search tests)) (λ zs k. parts_ok xs zs k)

plain_list : (ok : List Row → Type 0) (a : ℕ) → is_listed a ≡ false → (ns : List ℕ) → Becomes ok (map (row a) ns) (map (row a) ns)
plain_list ok a e [] = nothing_left ok
plain_list ok a e (n ∷ ns) = plain (row a n) (map (row a) ns) (map (row a) ns) e (plain_list ok a e ns)

none_filtered : {A : Type 0} (xs : List A) → filter (λ (x : A). false) xs ≡ []
none_filtered [] = refl
none_filtered (x ∷ xs) = none_filtered xs

module _ (F : ℕ) (few : F ≤ 128) where
  -- the literals of a clause
  literals_become : (c : Clause) → T (all (below F few) c) → Becomes (Clear HOLDS LACKS) (map literal_row c) (map literal_row (canonical_clause F c))
  literals_become [] t zs k = ap (λ (ls : List Literal). map literal_row ls ++ spelled zs) (sym (none_filtered (literals F)))
  literals_become (l ∷ c) t zs k =
      begin l.holds l.fact (map literal_row c ++ zs)
      ∙ through HOLDS LACKS (take_in HOLDS none (literal_row l)) (map literal_row c) zs (literals_pass c) k
      ∙ ap (λ (xs : List Row). xs ++ spelled zs) (clause_rows_lem F few (l ∷ c) t)
    where
      begin : (b : Bool) (n : ℕ) (xs : List Row)
          → spelled (row (cond b HOLDS LACKS) n ∷ xs) ≡ spelled_from (inside HOLDS LACKS (take_in HOLDS none (row (cond b HOLDS LACKS) n))) xs
      begin true n xs = refl
      begin false n xs = refl

      literal_passes : (b : Bool) → T (between HOLDS LACKS (cond b HOLDS LACKS))
      literal_passes true = tt
      literal_passes false = tt

      literals_pass : (c : Clause) → T (all (passes (between HOLDS LACKS)) (map literal_row c))
      literals_pass = all_map (passes (between HOLDS LACKS)) literal_row (λ l. literal_passes l.holds)

  clause_becomes : (c : Clause) → T (all (below F few) c) → Becomes (Clear HOLDS LACKS) (clause_rows c) (clause_rows (canonical_clause F c))
  clause_becomes c t = plain (row CLAUSE 0) (map literal_row c) (map literal_row (canonical_clause F c)) refl (literals_become c t)

  condition_becomes : (c : Condition) → T (condition_below F c) → Becomes (Clear HOLDS LACKS) (condition_rows c) (condition_rows (canonical_condition F c))
  condition_becomes = parts (Clear HOLDS LACKS) (all (below F few)) clause_rows (canonical_clause F) clause_becomes (λ c zs. refl)

  -- ADD rows, or DELETE rows
  module _ (a : ℕ) (listed : is_listed a ≡ true) (p : first_mark a ≡ a) (q : second_mark a ≡ a) (e : eqb a a ≡ true) (own : between a a a ≡ true) where
    list_becomes : (ns : List ℕ) → T (facts_below F ns) → Becomes (Clear a a) (map (row a) ns) (map (row a) (canonical_facts F ns))
    list_becomes [] t zs k = ap (λ (ms : List ℕ). map (row a) ms ++ spelled zs) (sym (none_filtered (range 0 F)))
    list_becomes (n ∷ ns) t zs k =
        rw listed
        ((λ i. spelled_from (inside (p i) (q i) (take_in (p i) none (row a n))) (map (row a) ns ++ zs))
        ∙ through a a (take_in a none (row a n)) (map (row a) ns) zs (all_map (passes (between a a)) (row a) (λ v. as_t own) ns) k
        ∙ ap (λ (xs : List Row). xs ++ spelled zs) (list_rows F few a e (n ∷ ns) t))

  adds_become : (ns : List ℕ) → T (facts_below F ns) → Becomes (Clear HOLDS ADD) (map (row ADD) ns) (map (row ADD) (canonical_facts F ns))
  adds_become ns t zs k = list_becomes ADD refl refl refl refl refl ns t zs (narrower HOLDS ADD ADD ADD (omega arith) (omega arith) zs k)

  deletes_become : (ns : List ℕ) → T (facts_below F ns) → Becomes (Clear HOLDS DELETE) (map (row DELETE) ns) (map (row DELETE) (canonical_facts F ns))
  deletes_become ns t zs k =
      list_becomes DELETE refl refl refl refl refl ns t zs (narrower HOLDS DELETE DELETE DELETE (omega arith) (omega arith) zs k)

  effect_becomes : (e : Effect) → T (effect_below F e) → Becomes (Clear HOLDS DELETE) (effect_rows e) (effect_rows (canonical_effect F e))
  effect_becomes e t =
      let e' : Effect = canonical_effect F e in
      let c : List Row = row EFFECT 0 ∷ condition_rows e.condition in
      let c' : List Row = row EFFECT 0 ∷ condition_rows e'.condition in
      let a : List Row = map (row ADD) e.adds in
      let a' : List Row = map (row ADD) e'.adds in
      then (c ++ a) (c' ++ a') (map (row DELETE) e.deletes) (map (row DELETE) e'.deletes)
      (then c c' a a' (plain (row EFFECT 0) (condition_rows e.condition) (condition_rows e'.condition) refl (condition_becomes e.condition (search tests)))
      (adds_become e.adds (search tests)) (after_adds e.adds))
      (deletes_become e.deletes (search tests)) (after_deletes e.deletes)
    where
      after_adds : (ns : List ℕ) (zs : List Row) → Clear HOLDS ADD zs → Clear HOLDS LACKS (map (row ADD) ns ++ zs)
      after_adds [] zs k = narrower HOLDS ADD HOLDS LACKS (omega arith) (omega arith) zs k
      after_adds (n ∷ ns) zs k = refl

      after_deletes : (ns : List ℕ) (zs : List Row) → Clear HOLDS DELETE zs → Clear HOLDS ADD (map (row DELETE) ns ++ zs)
      after_deletes [] zs k = narrower HOLDS DELETE HOLDS ADD (omega arith) (omega arith) zs k
      after_deletes (n ∷ ns) zs k = refl

  -- what stands after a condition, where it is not ADD or DELETE
  after_condition_lem : (zs : List Row) → Clear HOLDS DELETE zs → Clear HOLDS LACKS zs
  after_condition_lem = narrower HOLDS DELETE HOLDS LACKS (omega arith) (omega arith)

  effects_become : (es : List Effect) → T (all (effect_below F) es)
      → Becomes (Clear HOLDS DELETE) (concat_map effect_rows es) (concat_map effect_rows (map (canonical_effect F) es))
  effects_become = parts (Clear HOLDS DELETE) (effect_below F) effect_rows (canonical_effect F) effect_becomes (λ e zs. refl)

  action_becomes : (x : Action) → T (action_below F x) → Becomes (Clear HOLDS DELETE) (action_rows x) (action_rows (canonical_action F x))
  action_becomes x t =
      let x' : Action = canonical_action F x in
      then (row ACTION x.cost ∷ condition_rows x.precondition) (row ACTION x.cost ∷ condition_rows x'.precondition)
      (concat_map effect_rows x.effects) (concat_map effect_rows x'.effects)
      (plain (row ACTION x.cost) (condition_rows x.precondition) (condition_rows x'.precondition) refl (condition_becomes x.precondition (search tests)))
      (effects_become x.effects (search tests)) (after x.effects)
    where
      after : (es : List Effect) (zs : List Row) → Clear HOLDS DELETE zs → Clear HOLDS LACKS (concat_map effect_rows es ++ zs)
      after [] zs k = after_condition_lem zs k
      after (e ∷ es) zs k = refl

  not_listed : (hard : Bool) (k : Kind) → is_listed (opening_mark hard k) ≡ false
  not_listed true always = refl
  not_listed true sometime = refl
  not_listed true at_end = refl
  not_listed true at_most_once = refl
  not_listed true sometime_before = refl
  not_listed true sometime_after = refl
  not_listed true (within t) = refl
  not_listed true (always_within t) = refl
  not_listed false always = refl
  not_listed false sometime = refl
  not_listed false at_end = refl
  not_listed false at_most_once = refl
  not_listed false sometime_before = refl
  not_listed false sometime_after = refl
  not_listed false (within t) = refl
  not_listed false (always_within t) = refl

  steps_become : (k : Kind) → Becomes Anything (steps_rows k) (steps_rows k)
  steps_become always = nothing_left Anything
  steps_become sometime = nothing_left Anything
  steps_become at_end = nothing_left Anything
  steps_become at_most_once = nothing_left Anything
  steps_become sometime_before = nothing_left Anything
  steps_become sometime_after = nothing_left Anything
  steps_become (within t) = plain_list Anything STEPS refl (t ∷ [])
  steps_become (always_within t) = plain_list Anything STEPS refl (t ∷ [])

  -- ψ, where the kind has it
  abbrev second : Bool → Condition → List Row
  second b c = cond b (row SECOND 0 ∷ condition_rows c) []

  preference_becomes : (q : Preference) → T (preference_below F q) → Becomes (Clear HOLDS DELETE) (preference_rows q) (preference_rows (canonical_preference F q))
  preference_becomes q t =
      let q' : Preference = canonical_preference F q in
      let head : Row = row (opening_mark q.hard q.kind) q.weight in
      let steps : List Row = steps_rows q.kind in
      let c : List Row = condition_rows q.first in
      let c' : List Row = condition_rows q'.first in
      let d : List Row = second (two_sided q.kind) q.second in
      let d' : List Row = second (two_sided q.kind) q'.second in
      then (head ∷ steps) (head ∷ steps) (c ++ d) (c' ++ d') (plain head steps steps (not_listed q.hard q.kind) (steps_become q.kind))
      (then c c' d d' (condition_becomes q.first (search tests)) (second_becomes (two_sided q.kind) q.second (search tests)) (after (two_sided q.kind) q.second))
      (λ zs k. tt)
    where
      second_becomes : (b : Bool) (c : Condition) → T (condition_below F c) → Becomes (Clear HOLDS DELETE) (second b c) (second b (canonical_condition F c))
      second_becomes true c t zs k =
          plain (row SECOND 0) (condition_rows c) (condition_rows (canonical_condition F c)) refl (condition_becomes c t) zs (after_condition_lem zs k)
      second_becomes false c t zs k = refl

      after : (b : Bool) (c : Condition) (zs : List Row) → Clear HOLDS DELETE zs → Clear HOLDS LACKS (second b c ++ zs)
      after true c zs k = refl
      after false c zs k = after_condition_lem zs k

  actions_become : (xs : List Action) → T (all (action_below F) xs)
      → Becomes (Clear HOLDS DELETE) (concat_map action_rows xs) (concat_map action_rows (map (canonical_action F) xs))
  actions_become = parts (Clear HOLDS DELETE) (action_below F) action_rows (canonical_action F) action_becomes (λ x zs. refl)

  preferences_become : (qs : List Preference) → T (all (preference_below F) qs)
      → Becomes (Clear HOLDS DELETE) (concat_map preference_rows qs) (concat_map preference_rows (map (canonical_preference F) qs))
  preferences_become =
      parts (Clear HOLDS DELETE) (preference_below F) preference_rows (canonical_preference F) preference_becomes (λ q zs. not_listed q.hard q.kind)

pub task_spelled : (t : Task) → T (well_formed t) → t.facts ≤ 128 → spelled_rows (task_rows t) ≡ task_rows (canonical t)
unfolding spelled_rows canonical
task_spelled t w few =
    let F : ℕ = t.facts in
    let s : List Row = map (row START) t.start in
    let g : List Row = row GOAL 0 ∷ condition_rows t.goal in
    let g' : List Row = row GOAL 0 ∷ condition_rows (canonical_condition F t.goal) in
    let x : List Row = concat_map action_rows t.actions in
    let x' : List Row = concat_map action_rows (map (canonical_action F) t.actions) in
    let p : List Row = concat_map preference_rows t.preferences in
    let p' : List Row = concat_map preference_rows (map (canonical_preference F) t.preferences) in
    let all_of : Becomes (Clear HOLDS DELETE) (s ++ g ++ x ++ p) (s ++ g' ++ x' ++ p') =
    then (s ++ g ++ x) (s ++ g' ++ x') p p'
    (then (s ++ g) (s ++ g') x x'
    (then s s g g' (plain_list Anything START refl t.start)
    (plain (row GOAL 0) (condition_rows t.goal) (condition_rows (canonical_condition F t.goal)) refl (condition_becomes F few t.goal (search tests))) (λ zs k. tt))
    (actions_become F few t.actions (search tests)) (after_goal F few t.actions))
    (preferences_become F few t.preferences (search tests)) (after_actions F few t.preferences) in
    ap spelled (sym (append-nil (s ++ g ++ x ++ p))) ∙ all_of [] tt ∙ append-nil (s ++ g' ++ x' ++ p')
  where
    after_goal : (F : ℕ) → F ≤ 128 → (xs : List Action) (zs : List Row) → Clear HOLDS DELETE zs → Clear HOLDS LACKS (concat_map action_rows xs ++ zs)
    after_goal F few [] zs k = after_condition_lem F few zs k
    after_goal F few (x ∷ xs) zs k = refl

    after_actions : (F : ℕ) → F ≤ 128 → (qs : List Preference) (zs : List Row) → Clear HOLDS DELETE zs → Clear HOLDS DELETE (concat_map preference_rows qs ++ zs)
    after_actions F few [] zs k = k
    after_actions F few (q ∷ qs) zs k = not_listed F few q.hard q.kind
