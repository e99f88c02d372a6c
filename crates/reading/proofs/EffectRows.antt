-- On the rows that spell an action's effects, what is gathered and applied is the state that the action reaches.
use mathlib.Core.Path.{◌≡◌, refl, sym, ap, ap₂, ◌∙◌, fun_ext, subst, subst⁻¹}
use mathlib.Core.Bool.{Bool, true, false, not, ◌&&◌, ◌||◌, or-false, or_assoc, or_comm}
use mathlib.Core.List.{List, [], ◌∷◌, ◌++◌, map, append_assoc}
use Prim.Native.Nat.{ℕ, ◌+◌, ◌<◌, ◌≤◌}
use native.Mathlib.Nat.{zero-add}
use native.Mathlib.Omega.{arith}
use lib.Dec.{T, eqb, leb, ltb, ltb→lt}
use lib.ListN.{length, drop, get_or, length-append}
use borrow.Author.Tests.{lt-ltb, eq-eqb, ne_eqb, leb-true, le-leb}
use Rattle.task.specs.Marks.{EFFECT, CLAUSE, ADD, DELETE}
use Rattle.lists.specs.Lists.{all, any, non_empty, concat_map, elem}
use Rattle.meaning.specs.Task.{Effect, Action, condition_below, facts_below, effect_below}
use Rattle.task.specs.TaskRows.{Row, row}
use Rattle.task.specs.TaskRows.{condition_rows, effect_rows}
use Rattle.task.specs.File.{paired}
use Rattle.meaning.specs.Meaning.{State as Facts, is_true, after}
use Rattle.meaning.specs.Literals.{looked_effects}
use Rattle.task.specs.Rows.{between, run_at, Stops}
use Rattle.lists.proofs.Tests.{tests, and_both, as_t, both_true, not_both}
use Rattle.meaning.proofs.Effects.{added, deleted, changed, after_is}
use Rattle.task.proofs.Positions.{drop_after}
use Rattle.task.proofs.Reading.{passes, fold, run-stop, run_through, row_at, row_end, mark_at_lem}
use Rattle.state.specs.Member.{member, empty, union, difference}
use Rattle.reading.specs.Conditions.{in_condition, begin, read_as, evaluate_at}
use Rattle.reading.specs.Effects.{marked, in_effects, Result, result_of, state_of, ending, mark_row, mark_at, all_marked, GatheredWith, Gathers, ChangedBy, Changes, SomeEffect, SomeEffects}
use Rattle.reading.specs.declared.conditions.Evaluated.{Evaluated}
use Rattle.reading.specs.declared.effects.Applied.{Applied}
use Rattle.reading.specs.declared.effects.Gathered.{Gathered}
use Rattle.reading.specs.declared.effects.Changed.{Changed}
use Rattle.reading.proofs.ConditionRows.{condition_at}

-- The rows of one mark

passes_same : (m : ℕ) (ns : List ℕ) → T (all (passes (λ (n : ℕ). eqb n m)) (map (row m) ns))
passes_same m [] = tt
passes_same m (n ∷ ns) = and_both (eqb m m) (all (passes (λ (n : ℕ). eqb n m)) (map (row m) ns)) (as_t (eq-eqb m m refl)) (passes_same m ns)

mark_fold : (b : Bool) (m : ℕ) (f : Facts) (ns : List ℕ) → fold (mark_row b) f (map (row m) ns) ≡ all_marked b f ns
mark_fold b m f [] = refl
mark_fold b m f (n ∷ ns) = mark_fold b m (marked b f n) ns

marked_at : (m : ℕ) (b : Bool) (f : Facts) (ms vs : List ℕ) (i : ℕ) (ns : List ℕ) (xs : List Row)
    → drop i (paired ms vs) ≡ map (row m) ns ++ xs → Stops (λ (n : ℕ). eqb n m) xs
    → mark_at m b f ms vs i ≡ ending (all_marked b f ns) (i + length (map (row m) ns))
unfolding run_at
marked_at m b f ms vs i ns xs e h =
    rw e
    (run_through (mark_row b) (λ (n : ℕ). eqb n m) ending f i (map (row m) ns) xs (passes_same m ns)
    ∙ run-stop (mark_row b) (λ (n : ℕ). eqb n m) ending (fold (mark_row b) f (map (row m) ns)) (i + length (map (row m) ns)) xs h
    ∙ ap (λ (g : Facts). ending g (i + length (map (row m) ns))) (mark_fold b m f ns))

-- What stands after the parts of an effect

no_add : (xs : List Row) → Stops (between CLAUSE DELETE) xs → Stops (λ (n : ℕ). eqb n ADD) xs
no_add [] h = tt
no_add (x ∷ xs) h = ne_eqb x.mark 6 (λ p. not_both (ap (between 3 7) p) h)

no_delete : (xs : List Row) → Stops (between CLAUSE DELETE) xs → Stops (λ (n : ℕ). eqb n DELETE) xs
no_delete [] h = tt
no_delete (x ∷ xs) h = ne_eqb x.mark 7 (λ p. not_both (ap (between 3 7) p) h)

no_clause : (xs : List Row) → Stops (between CLAUSE DELETE) xs → Stops in_condition xs
no_clause [] h = tt
no_clause (x ∷ xs) h = go (in_condition x.mark) refl
  where
    go : (b : Bool) → in_condition x.mark ≡ b → b ≡ false
    go true e =
        let a : 3 ≤ x.mark = leb-true 3 x.mark (both_true (leb 3 x.mark) (leb x.mark 5) e).0 in
        let c : x.mark ≤ 5 = leb-true x.mark 5 (both_true (leb 3 x.mark) (leb x.mark 5) e).1 in
        let d : x.mark ≤ 7 = omega arith in
        absurd (not_both (rw (le-leb 3 x.mark a, le-leb x.mark 7 d)) h)
    go false e = refl

after_adds : (ds : List ℕ) (xs : List Row) → Stops (between CLAUSE DELETE) xs → Stops (λ (n : ℕ). eqb n ADD) (map (row DELETE) ds ++ xs)
after_adds [] xs h = no_add xs h
after_adds (d ∷ ds) xs h = refl

after_clauses : (ns ds : List ℕ) (xs : List Row) → Stops (between CLAUSE DELETE) xs
    → Stops in_condition (map (row ADD) ns ++ (map (row DELETE) ds ++ xs))
after_clauses [] [] xs h = no_clause xs h
after_clauses [] (d ∷ ds) xs h = refl
after_clauses (n ∷ ns) ds xs h = refl

no_effect_lem : (xs : List Row) → Stops in_effects xs → Stops (between CLAUSE DELETE) xs
no_effect_lem [] h = tt
no_effect_lem (x ∷ xs) h = go (between 3 7 x.mark) refl
  where
    go : (b : Bool) → between 3 7 x.mark ≡ b → b ≡ false
    go true e =
        let a : 3 ≤ x.mark = leb-true 3 x.mark (both_true (leb 3 x.mark) (leb x.mark 7) e).0 in
        let c : 2 ≤ x.mark = omega arith in
        absurd (not_both (rw (le-leb 2 x.mark c, (both_true (leb 3 x.mark) (leb x.mark 7) e).1)) h)
    go false e = refl

after_effect : (es : List Effect) (xs : List Row) → Stops in_effects xs → Stops (between CLAUSE DELETE) (concat_map effect_rows es ++ xs)
after_effect [] xs h = no_effect_lem xs h
after_effect (e ∷ es) xs h = refl

-- One effect

module _ (s : Facts) (ms vs : List ℕ) (i : ℕ) (g : Gathered) (c : Evaluated) (read : c ≡ evaluate_at s begin ms vs (i + 1))
    (a d : Applied) (added_is : result_of a ≡ mark_at ADD c.holds (member g.adds) ms vs c.next)
    (deleted_is : result_of d ≡ mark_at DELETE c.holds (member g.deletes) ms vs a.next) where
  module _ (e : Effect) (xs : List Row) (h : drop i (paired ms vs) ≡ effect_rows e ++ xs) (stop : Stops (between CLAUSE DELETE) xs) where
    abbrev C : List Row
    C = condition_rows e.condition

    abbrev A : List Row
    A = map (row ADD) e.adds

    abbrev D : List Row
    D = map (row DELETE) e.deletes

    abbrev k : ℕ
    k = i + 1 + length C

    at_condition : drop (i + 1) (paired ms vs) ≡ C ++ (A ++ (D ++ xs))
    at_condition =
        drop_after i (paired ms vs) (row EFFECT 0 ∷ []) (C ++ A ++ D ++ xs) h
        ∙ append_assoc (C ++ A) D xs ∙ append_assoc C A (D ++ xs)

    whole : c ≡ read_as s e.condition k
    whole = read ∙ condition_at s ms vs (i + 1) e.condition (A ++ (D ++ xs)) at_condition (after_clauses e.adds e.deletes xs stop)

    at_adds : drop k (paired ms vs) ≡ A ++ (D ++ xs)
    at_adds = drop_after (i + 1) (paired ms vs) C (A ++ (D ++ xs)) at_condition

    adds_are : result_of a ≡ ending (all_marked (is_true s e.condition) (member g.adds) e.adds) (k + length A)
    adds_are =
        added_is ∙ ap (λ (x : Evaluated). mark_at ADD x.holds (member g.adds) ms vs x.next) whole
        ∙ marked_at ADD (is_true s e.condition) (member g.adds) ms vs k e.adds (D ++ xs) at_adds (after_adds e.deletes xs stop)

    at_deletes : drop (k + length A) (paired ms vs) ≡ D ++ xs
    at_deletes = drop_after k (paired ms vs) A (D ++ xs) at_adds

    deletes_are : result_of d ≡ ending (all_marked (is_true s e.condition) (member g.deletes) e.deletes) (k + length A + length D)
    deletes_are =
        deleted_is
        ∙ (λ z. mark_at DELETE (whole z).holds (member g.deletes) ms vs (adds_are z).next)
        ∙ marked_at DELETE (is_true s e.condition) (member g.deletes) ms vs (k + length A) e.deletes xs at_deletes (no_delete xs stop)

    all_rows : k + length A + length D ≡ i + length (effect_rows e)
    all_rows = rw (length-append (C ++ A) D, length-append C A) (omega arith)

    pub gathered_with : (r : Gathered) → r.adds ≡ a.state → r.deletes ≡ d.state → r.looked ≡ g.looked + c.looked → r.next ≡ d.next
        → GatheredWith s i g e r
    gathered_with r p q l n = record {
      adds = ap member p ∙ ap (λ (x : Result). x.state) adds_are;
      deletes = ap member q ∙ ap (λ (x : Result). x.state) deletes_are;
      looked = l ∙ ap (λ (x : Evaluated). g.looked + x.looked) whole;
      next = n ∙ ap (λ (x : Result). x.next) deletes_are ∙ all_rows;
    }

-- The facts that are marked, each below F

module _ (F : ℕ) (few : F ≤ 128) where
  pub marked_all : (t : Bool) (f : Facts) (ns : List ℕ) (m : ℕ) → T (facts_below F ns) → all_marked t f ns m ≡ (f m || t && elem m ns)
  marked_all true f [] m h = sym (or-false (f m))
  marked_all true f (n ∷ ns) m h =
      let both : T (ltb n F && facts_below F ns) = h in
      let first : T (ltb n F) = search tests in
      let below : n < 128 = omega (arith, ltb→lt n F first) in
      marked_all true (marked true f n) ns m (search tests)
      ∙ ap (λ (t : Bool). f m || t && eqb m n || elem m ns) (lt-ltb n 128 below)
      ∙ or_assoc (f m) (eqb m n) (elem m ns)
  marked_all false f [] m h = sym (or-false (f m))
  marked_all false f (n ∷ ns) m h =
      let both : T (ltb n F && facts_below F ns) = h in
      marked_all false f ns m (search tests)

-- w takes what an effect adds, or what it deletes
module _ (s : Facts) (w : Effect → List ℕ) where
  abbrev all_effects : Facts → List Effect → Facts
  all_effects f [] = f
  all_effects f (e ∷ es) = all_effects (all_marked (is_true s e.condition) f (w e)) es

  effects_marked : (F : ℕ) → F ≤ 128 → (f : Facts) (es : List Effect) (m : ℕ)
      → ((e : Effect) → T (effect_below F e) → T (facts_below F (w e))) → T (all (effect_below F) es)
      → all_effects f es m ≡ (f m || any (λ (e : Effect). is_true s e.condition && elem m (w e)) es)
  effects_marked F few f [] m below h = sym (or-false (f m))
  effects_marked F few f (e ∷ es) m below h =
      let b : T (effect_below F e && all (effect_below F) es) = h in
      effects_marked F few (all_marked (is_true s e.condition) f (w e)) es m below (search tests)
      ∙ ap (λ (b : Bool). b || any (λ (e : Effect). is_true s e.condition && elem m (w e)) es)
      (marked_all F few (is_true s e.condition) f (w e) m (below e (search tests)))
      ∙ or_assoc (f m) (is_true s e.condition && elem m (w e)) (any (λ (e : Effect). is_true s e.condition && elem m (w e)) es)

abbrev adds_of : Effect → List ℕ
adds_of e = e.adds

abbrev deletes_of : Effect → List ℕ
deletes_of e = e.deletes

adds_below : (F : ℕ) (e : Effect) → T (effect_below F e) → T (facts_below F e.adds)
adds_below F e h =
    let b : T (condition_below F e.condition && facts_below F e.adds && facts_below F e.deletes) = h in search tests

deletes_below : (F : ℕ) (e : Effect) → T (effect_below F e) → T (facts_below F e.deletes)
deletes_below F e h =
    let b : T (condition_below F e.condition && facts_below F e.adds && facts_below F e.deletes) = h in search tests

module _ (s : Facts) where
  module _ (t : Action) (F : ℕ) (few : F ≤ 128) (below : T (all (effect_below F) t.effects)) where
    reached : union (difference s (all_effects s deletes_of empty t.effects)) (all_effects s adds_of empty t.effects) ≡ after s t
    unfolding added deleted changed
    reached =
        fun_ext (λ m.
        ap₂ (λ (d a : Bool). s m && not d || a)
        (effects_marked s deletes_of F few empty t.effects m (deletes_below F) below)
        (effects_marked s adds_of F few empty t.effects m (adds_below F) below)
        ∙ or_comm (s m && not (deleted s t.effects m)) (added s t.effects m)
        ∙ sym (after_is s t m))

-- All effects

-- what is left of them, where g has the others
pub record Left (s : Facts) (ms vs : List ℕ) (es : List Effect) (xs : List Row) (g : Gathered) (i : ℕ) : Type 0 where
  pub more : List Effect
  pub rest : drop i (paired ms vs) ≡ concat_map effect_rows more ++ xs
  pub adds : all_effects s adds_of (member g.adds) more ≡ all_effects s adds_of empty es
  pub deletes : all_effects s deletes_of (member g.deletes) more ≡ all_effects s deletes_of empty es
  pub looked : g.looked + looked_effects s more ≡ looked_effects s es

pub record Gathering (s : Facts) (ms vs : List ℕ) (at : ℕ) (g : Gathered) (i : ℕ) : Type 0 where
  pub few : g.looked ≤ i
  pub few_rows : g.looked ≤ length ms
  pub so_far : (es : List Effect) (xs : List Row) → drop at (paired ms vs) ≡ concat_map effect_rows es ++ xs → Stops in_effects xs → Left s ms vs es xs g i

module _ (s : Facts) (ms vs : List ℕ) (at : ℕ) where
  pub begins : (g : Gathered) → member g.adds ≡ empty → member g.deletes ≡ empty → g.looked ≡ 0 → Gathering s ms vs at g at
  begins g a d l = record {
    few = omega arith;
    few_rows = omega arith;
    so_far = λ es xs e h. record {
      more = es;
      rest = e;
      adds = ap (λ (f : Facts). all_effects s adds_of f es) a;
      deletes = ap (λ (f : Facts). all_effects s deletes_of f es) d;
      looked = ap (λ (k : ℕ). k + looked_effects s es) l ∙ zero-add (looked_effects s es);
    };
  }

  module _ (g : Gathered) (i : ℕ) where
    -- no effect is left
    abbrev None : List Effect → Type 0
    None [] = Unit {0}
    None (e ∷ es) = ⊥

    other_row : i < length ms → (get_or ms i 0 ≡ EFFECT → ⊥) → (more : List Effect) (xs : List Row)
        → drop i (paired ms vs) ≡ concat_map effect_rows more ++ xs → None more
    other_row h m [] xs e = tt
    other_row h m (f ∷ fs) xs e = m (mark_at_lem ms vs i h e)

    no_row : length ms ≤ i → (more : List Effect) (xs : List Row) → drop i (paired ms vs) ≡ concat_map effect_rows more ++ xs → None more
    no_row h [] xs e = tt
    no_row h (f ∷ fs) xs e = absurd (subst⁻¹ (λ (l : List Row). T (non_empty l)) (sym (row_end ms vs i h) ∙ e) tt)

    effect_row : i < length ms → get_or ms i 0 ≡ EFFECT → (xs : List Row) → drop i (paired ms vs) ≡ xs → Stops in_effects xs → ⊥
    effect_row h m [] e stop = subst (λ (l : List Row). T (non_empty l)) (sym (row_at ms vs i h) ∙ e) tt
    effect_row h m (x ∷ xs) e stop = not_both (ap in_effects (sym (mark_at_lem ms vs i h e) ∙ m)) stop

    next_left : (r : Gathered) → i < length ms → get_or ms i 0 ≡ EFFECT → Gathers s ms vs i g r
        → (es : List Effect) (xs : List Row) → Stops in_effects xs → (more : List Effect) → drop i (paired ms vs) ≡ concat_map effect_rows more ++ xs
        → all_effects s adds_of (member g.adds) more ≡ all_effects s adds_of empty es
        → all_effects s deletes_of (member g.deletes) more ≡ all_effects s deletes_of empty es
        → g.looked + looked_effects s more ≡ looked_effects s es
        → Left s ms vs es xs r r.next
    next_left r h m step es xs stop [] rest a d l = absurd (effect_row h m xs rest stop)
    next_left r h m step es xs stop (e ∷ more) rest a d l =
        let whole : drop i (paired ms vs) ≡ effect_rows e ++ (concat_map effect_rows more ++ xs) =
        rest ∙ append_assoc (effect_rows e) (concat_map effect_rows more) xs in
        let q : GatheredWith s i g e r = step e (record { rest = concat_map effect_rows more ++ xs; spelled = whole; stops = after_effect more xs stop }) in
        record {
          more = more;
          rest = ap (λ (j : ℕ). drop j (paired ms vs)) q.next
              ∙ drop_after i (paired ms vs) (effect_rows e) (concat_map effect_rows more ++ xs) whole;
          adds = ap (λ (f : Facts). all_effects s adds_of f more) q.adds ∙ a;
          deletes = ap (λ (f : Facts). all_effects s deletes_of f more) q.deletes ∙ d;
          looked = omega (arith, q.looked, l);
        }

    -- an EFFECT row opens the next one, where effects stand from row at on
    pub its_effect : i < length ms → get_or ms i 0 ≡ EFFECT → SomeEffects ms vs at → Gathering s ms vs at g i → SomeEffect ms vs i
    its_effect h m (a, E) w = let q : Left s ms vs a.effects E.rest g i = w.so_far a.effects E.rest E.spelled E.stops in
        its_first q.more q.rest
      where
        its_first : (more : List Effect) → drop i (paired ms vs) ≡ concat_map effect_rows more ++ E.rest → SomeEffect ms vs i
        its_first [] rest = absurd (effect_row h m E.rest rest E.stops)
        its_first (e ∷ more) rest = (
          e,
          record {
            rest = concat_map effect_rows more ++ E.rest;
            spelled = rest ∙ append_assoc (effect_rows e) (concat_map effect_rows more) E.rest;
            stops = after_effect more E.rest E.stops;
          },
        )

    pub goes_on : (r : Gathered) → i < length ms → get_or ms i 0 ≡ EFFECT → Gathers s ms vs i g r → r.looked ≤ r.next → r.next ≤ length ms
        → Gathering s ms vs at g i → Gathering s ms vs at r r.next
    goes_on r h m step l n w = record {
      few = l;
      few_rows = omega (arith, l, n);
      so_far = λ es xs e stop. let q : Left s ms vs es xs g i = w.so_far es xs e stop in
          next_left r h m step es xs stop q.more q.rest q.adds q.deletes q.looked;
    }

    module _ (r : Changed) (state : member (state_of r) ≡ union (difference s (member g.deletes)) (member g.adds)) (looks : r.looked ≡ g.looked)
        (w : Gathering s ms vs at g i) where
      all_left : (a : Action) (F : ℕ) → F ≤ 128 → T (all (effect_below F) a.effects) → (more : List Effect) → None more
          → all_effects s adds_of (member g.adds) more ≡ all_effects s adds_of empty a.effects
          → all_effects s deletes_of (member g.deletes) more ≡ all_effects s deletes_of empty a.effects
          → g.looked + looked_effects s more ≡ looked_effects s a.effects
          → ChangedBy s a r
      all_left a F few below [] none p d l = record {
        state = state ∙ (λ z. union (difference s (d z)) (p z)) ∙ reached s a F few below;
        looked = omega (arith, looks, l);
      }
      all_left a F few below (f ∷ fs) none p d l = absurd none

      changed_by : ((more : List Effect) (xs : List Row) → drop i (paired ms vs) ≡ concat_map effect_rows more ++ xs → None more)
          → Changes s ms vs at r × (r.looked ≤ length ms)
      changed_by none = (
        λ a E. let q : Left s ms vs a.effects E.rest g i = w.so_far a.effects E.rest E.spelled E.stops in
            all_left a E.facts E.few E.below q.more (none q.more E.rest q.rest) q.adds q.deletes q.looked,
        omega (arith, looks, w.few_rows),
      )

      pub stops : i < length ms → (get_or ms i 0 ≡ EFFECT → ⊥) → Changes s ms vs at r × (r.looked ≤ length ms)
      stops h m = changed_by (other_row h m)

      pub ends : length ms ≤ i → Changes s ms vs at r × (r.looked ≤ length ms)
      ends h = changed_by (no_row h)
