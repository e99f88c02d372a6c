-- What a reader of conditions comes through, row by row.
use mathlib.Core.Path.{◌≡◌, refl, sym, ap, ◌∙◌}
use mathlib.Core.Bool.{Bool, true, false, cond}
use mathlib.Core.List.{List, [], ◌∷◌}
use Prim.Native.Nat.{ℕ, suc, ◌+◌, ◌-◌, ◌≤◌, ◌<◌}
use native.Mathlib.Omega.{arith}
use lib.Dec.{eqb, leb}
use lib.ListN.{length, drop, get_or}
use borrow.Author.Tests.{leb-true, leb-false, eqb-true, eqb-false, ne_eqb, le-leb}
use Rattle.task.specs.Marks.{CLAUSE, HOLDS, LACKS}
use Rattle.task.specs.TaskRows.{Row, row}
use Rattle.meaning.specs.Meaning.{State as Facts}
use Rattle.task.specs.File.{paired}
use Rattle.task.specs.Rows.{value_at, between, run, run_at}
use Rattle.lists.proofs.Tests.{both_true, not_both}
use Rattle.task.proofs.Reading.{row_at, goes_on, stops_at, ends_at}
use Rattle.layout.specs.Sides.{end_at as skipped}
use Rattle.layout.proofs.Ends.{any_values}
use Rattle.reading.specs.Conditions.{in_condition, Reading, reading, read_row, finish, evaluate_at, end_at, false_mark}

-- Marks

-- a literal is of a condition, and no clause
pub literal_in : (m : ℕ) → between HOLDS LACKS m ≡ true → in_condition m ≡ true
literal_in m l =
    let a : 4 ≤ m = leb-true 4 m (both_true (leb 4 m) (leb m 5) l).0 in
    let b : m ≤ 5 = leb-true m 5 (both_true (leb 4 m) (leb m 5) l).1 in
    let c : 3 ≤ m = omega arith in
    rw (le-leb 3 m c, le-leb m 5 b)

pub literal_no_clause : (m : ℕ) → between HOLDS LACKS m ≡ true → eqb m CLAUSE ≡ false
literal_no_clause m l =
    let a : 4 ≤ m = leb-true 4 m (both_true (leb 4 m) (leb m 5) l).0 in
    ne_eqb m 3 (λ e. absurd (omega (arith, e)))

-- what is of a condition and no literal is a clause
clause_left : (m : ℕ) → in_condition m ≡ true → between HOLDS LACKS m ≡ false → m ≡ 3
clause_left m i l = go (leb 4 m) refl
  where
    go : (b : Bool) → leb 4 m ≡ b → m ≡ 3
    go true e = absurd (not_both (rw (e, (both_true (leb 3 m) (leb m 5) i).1)) l)
    go false e =
        let a : 3 ≤ m = leb-true 3 m (both_true (leb 3 m) (leb m 5) i).0 in
        let c : m < 4 = leb-false 4 m e in
        omega arith

outside : (m : ℕ) → (m ≡ 3 → ⊥) → between HOLDS LACKS m ≡ false → in_condition m ≡ false
outside m n l = go (in_condition m) refl
  where
    go : (b : Bool) → in_condition m ≡ b → b ≡ false
    go true e = absurd (n (clause_left m e l))
    go false e = refl

abbrev still : Unit {0} → Row → Unit {0}
still w x = w

abbrev here : Unit {0} → ℕ → ℕ
here w i = i

module _ (s : Facts) where
  -- One row

  false_in : (m v : ℕ) → m ≡ false_mark s v → in_condition m ≡ true
  false_in m v e = go (s v) refl
    where
      go : (b : Bool) → s v ≡ b → in_condition m ≡ true
      go true q = let p : m ≡ 5 = e ∙ rw q in rw p
      go false q = let p : m ≡ 4 = e ∙ rw q in rw p

  false_step : (n m v : ℕ) → m ≡ false_mark s v → read_row s (reading true false n) (row m v) ≡ reading true false (suc n)
  false_step n m v e = go (s v) refl
    where
      go : (b : Bool) → s v ≡ b → read_row s (reading true false n) (row m v) ≡ reading true false (suc n)
      go true q = let p : m ≡ 5 = e ∙ rw q in rw (p, q)
      go false q = let p : m ≡ 4 = e ∙ rw q in rw (p, q)

  true_step : (n m v : ℕ) → between HOLDS LACKS m ≡ true → (m ≡ false_mark s v → ⊥)
      → read_row s (reading true false n) (row m v) ≡ reading true true (suc n)
  true_step n m v l f = go (eqb m 4) (s v) refl refl
    where
      five : eqb m 4 ≡ false → m ≡ 5
      five p =
          let a : 4 ≤ m = leb-true 4 m (both_true (leb 4 m) (leb m 5) l).0 in
          let b : m ≤ 5 = leb-true m 5 (both_true (leb 4 m) (leb m 5) l).1 in
          omega (arith, eqb-false m 4 p)

      go : (a b : Bool) → eqb m 4 ≡ a → s v ≡ b → read_row s (reading true false n) (row m v) ≡ reading true true (suc n)
      go true true p q = let e : m ≡ 4 = eqb-true m 4 p in rw (e, q)
      go true false p q = let e : false_mark s v ≡ 4 = rw q in absurd (f (eqb-true m 4 p ∙ sym e))
      go false true p q = let e : false_mark s v ≡ 5 = rw q in absurd (f (five p ∙ sym e))
      go false false p q = let e : m ≡ 5 = five p in rw (e, q)

  lost_step : (p : Bool) (n : ℕ) (x : Row) → read_row s (reading false p n) x ≡ reading false (cond (eqb x.mark CLAUSE) false p) n
  lost_step p n x = go (eqb x.mark CLAUSE)
    where
      go : (b : Bool) → cond b (reading false false n) (reading false p n) ≡ reading false (cond b false p) n
      go true = refl
      go false = refl

  -- After a false clause nothing is looked at

  run_lost : (p : Bool) (n i : ℕ) (xs : List Row)
      → run (read_row s) in_condition finish (reading false p n) i xs ≡ record { holds = false; looked = n; next = run still in_condition here tt i xs }
  unfolding run
  run_lost p n i [] = refl
  run_lost p n i (x ∷ xs) =
      go (in_condition x.mark)
      (ap (λ (w : Reading). run (read_row s) in_condition finish w (i + 1) xs) (lost_step p n x) ∙ run_lost (cond (eqb x.mark CLAUSE) false p) n (i + 1) xs)
    where
      go : (b : Bool)
          → run (read_row s) in_condition finish (read_row s (reading false p n) x) (i + 1) xs
          ≡ record { holds = false; looked = n; next = run still in_condition here tt (i + 1) xs }
          → cond b (run (read_row s) in_condition finish (read_row s (reading false p n) x) (i + 1) xs) (finish (reading false p n) i)
          ≡ record { holds = false; looked = n; next = cond b (run still in_condition here tt (i + 1) xs) i }
      go true e = e
      go false e = refl

  gave_up_rows : (n i : ℕ) (x : Row) (xs : List Row) → between HOLDS LACKS x.mark ≡ false
      → run (read_row s) in_condition finish (reading true false n) i (x ∷ xs)
      ≡ record { holds = false; looked = n; next = run still in_condition here tt i (x ∷ xs) }
  unfolding run
  gave_up_rows n i x xs l = go (in_condition x.mark) refl
    where
      step : x.mark ≡ 3 → read_row s (reading true false n) x ≡ reading false false n
      step e = rw e

      go : (b : Bool) → in_condition x.mark ≡ b
          → cond b (run (read_row s) in_condition finish (read_row s (reading true false n) x) (i + 1) xs) (finish (reading true false n) i)
          ≡ record { holds = false; looked = n; next = cond b (run still in_condition here tt (i + 1) xs) i }
      go true e =
          ap (λ (w : Reading). run (read_row s) in_condition finish w (i + 1) xs) (step (clause_left x.mark e l)) ∙ run_lost false n (i + 1) xs
      go false e = refl

  -- Rows where they stand

  module _ (ms vs : List ℕ) (i : ℕ) where
    -- a false literal of an open clause
    pub looks_on : (n : ℕ) → i < length ms → get_or ms i 0 ≡ false_mark s (value_at vs i)
        → evaluate_at s (reading true false n) ms vs i ≡ evaluate_at s (reading true false (suc n)) ms vs (i + 1)
    looks_on n h e =
        goes_on (read_row s) in_condition finish (reading true false n) ms vs i h (false_in (get_or ms i 0) (value_at vs i) e)
        ∙ ap (λ (w : Reading). evaluate_at s w ms vs (i + 1)) (false_step n (get_or ms i 0) (value_at vs i) e)

    -- a true one
    pub finds : (n : ℕ) → i < length ms → between HOLDS LACKS (get_or ms i 0) ≡ true → (get_or ms i 0 ≡ false_mark s (value_at vs i) → ⊥)
        → evaluate_at s (reading true false n) ms vs i ≡ evaluate_at s (reading true true (suc n)) ms vs (i + 1)
    finds n h l f =
        goes_on (read_row s) in_condition finish (reading true false n) ms vs i h (literal_in (get_or ms i 0) l)
        ∙ ap (λ (w : Reading). evaluate_at s w ms vs (i + 1)) (true_step n (get_or ms i 0) (value_at vs i) l f)

    -- an open clause ends: the condition is false
    pub gives_up : (n : ℕ) → i < length ms → between HOLDS LACKS (get_or ms i 0) ≡ false
        → evaluate_at s (reading true false n) ms vs i ≡ record { holds = false; looked = n; next = end_at ms vs i }
    unfolding run_at
    gives_up n h l = rw (row_at ms vs i h) (gave_up_rows n i (row (get_or ms i 0) (value_at vs i)) (drop (i + 1) (paired ms vs)) l)

    pub gives_up_last : (n : ℕ) → length ms ≤ i → evaluate_at s (reading true false n) ms vs i ≡ record { holds = false; looked = n; next = i }
    gives_up_last n h = ends_at (read_row s) in_condition finish (reading true false n) ms vs i h

    -- where every clause so far is true
    pub opens : (n : ℕ) → i < length ms → get_or ms i 0 ≡ CLAUSE
        → evaluate_at s (reading true true n) ms vs i ≡ evaluate_at s (reading true false n) ms vs (i + 1)
    opens n h e =
        goes_on (read_row s) in_condition finish (reading true true n) ms vs i h (rw e)
        ∙ ap (λ (w : Reading). evaluate_at s w ms vs (i + 1)) (step (get_or ms i 0) e)
      where
        step : (m : ℕ) → m ≡ CLAUSE → read_row s (reading true true n) (row m (value_at vs i)) ≡ reading true false n
        step m q = rw q

    pub passes_by : (n : ℕ) → i < length ms → between HOLDS LACKS (get_or ms i 0) ≡ true
        → evaluate_at s (reading true true n) ms vs i ≡ evaluate_at s (reading true true n) ms vs (i + 1)
    passes_by n h l =
        goes_on (read_row s) in_condition finish (reading true true n) ms vs i h (literal_in (get_or ms i 0) l)
        ∙ ap (λ (w : Reading). evaluate_at s w ms vs (i + 1)) (step (get_or ms i 0) (literal_no_clause (get_or ms i 0) l))
      where
        step : (m : ℕ) → eqb m CLAUSE ≡ false → read_row s (reading true true n) (row m (value_at vs i)) ≡ reading true true n
        step m q = rw q

    pub is_read : (n : ℕ) → i < length ms → (get_or ms i 0 ≡ CLAUSE → ⊥) → between HOLDS LACKS (get_or ms i 0) ≡ false
        → evaluate_at s (reading true true n) ms vs i ≡ record { holds = true; looked = n; next = i }
    is_read n h m l = stops_at (read_row s) in_condition finish (reading true true n) ms vs i h (outside (get_or ms i 0) m l)

    pub is_read_last : (n : ℕ) → length ms ≤ i → evaluate_at s (reading true true n) ms vs i ≡ record { holds = true; looked = n; next = i }
    is_read_last n h = ends_at (read_row s) in_condition finish (reading true true n) ms vs i h

  -- so many false literals

  pub none_past : (ms vs : List ℕ) (at n : ℕ)
      → evaluate_at s (reading true false n) ms vs at ≡ evaluate_at s (reading true false (n + (at - at))) ms vs at
  none_past ms vs at n = let e : n + (at - at) ≡ n = omega arith in rw e

  pub one_past : (ms vs : List ℕ) (at i n : ℕ) → at ≤ i
      → evaluate_at s (reading true false n) ms vs at ≡ evaluate_at s (reading true false (n + (i - at))) ms vs i
      → i < length ms → get_or ms i 0 ≡ false_mark s (value_at vs i)
      → evaluate_at s (reading true false n) ms vs at ≡ evaluate_at s (reading true false (n + (i + 1 - at))) ms vs (i + 1)
  one_past ms vs at i n l e h q =
      let k : suc (n + (i - at)) ≡ n + (i + 1 - at) = omega arith in
      e ∙ looks_on ms vs i (n + (i - at)) h q ∙ ap (λ (j : ℕ). evaluate_at s (reading true false j) ms vs (i + 1)) k

-- The row after a condition: the values play no part
pub ended : (ms vs : List ℕ) (i : ℕ) → skipped CLAUSE LACKS ms i ≡ end_at ms vs i
unfolding run_at run
ended ms vs i = any_values in_condition i i ms [] vs
