-- On the rows that spell a condition, the reader gives that condition's meaning, and counts the literals that it looks at.
use mathlib.Core.Path.{◌≡◌, ap, ◌∙◌, refl}
use mathlib.Core.Bool.{Bool, true, false, not, cond, ◌&&◌, ◌||◌, beq}
use mathlib.Core.List.{List, [], ◌∷◌, ◌++◌, map}
use Prim.Native.Nat.{ℕ, suc, ◌+◌, ◌≤◌}
use native.Mathlib.Omega.{arith}
use lib.ListN.{length, drop, length-drop}
use Rattle.task.specs.Marks.{HOLDS, LACKS}
use Rattle.lists.specs.Lists.{any}
use Rattle.meaning.specs.Task.{Clause, Condition}
use Rattle.task.specs.TaskRows.{Row, row, literal_row, condition_rows}
use Rattle.meaning.specs.Meaning.{State as Facts, literal_true, is_true}
use Rattle.meaning.specs.Literals.{looked_clause, looked_at}
use Rattle.task.specs.File.{paired}
use Rattle.task.specs.Rows.{run, run_at, Stops}
use Rattle.task.proofs.Bytes.{length-paired}
use Rattle.task.proofs.Passing.{condition_passes}
use Rattle.task.proofs.Reading.{passes, fold, fold-append, run-stop, run_through, run_ends}
use Rattle.reading.specs.Conditions.{in_condition, Reading, reading, begin, finish, read_as, read_row, evaluate_at}
use Rattle.reading.specs.declared.conditions.Evaluated.{Evaluated}

abbrev evaluated : Bool → ℕ → ℕ → Evaluated
evaluated h n j = record { holds = h; looked = n; next = j }

module _ (s : Facts) where
  one_literal : (e p b : Bool) (n f : ℕ)
      → read_row s (reading e p n) (row (cond b HOLDS LACKS) f) ≡ reading e (p || e && beq (s f) b) (cond (e && not p) (suc n) n)
  one_literal true true true n f = refl
  one_literal true true false n f = refl
  one_literal true false true n f = refl
  one_literal true false false n f = refl
  one_literal false true true n f = refl
  one_literal false true false n f = refl
  one_literal false false true n f = refl
  one_literal false false false n f = refl

  one_more : (e p a b : Bool) → (p || e && a || e && b) ≡ (p || e && (a || b))
  one_more true true a b = refl
  one_more true false a b = refl
  one_more false true a b = refl
  one_more false false a b = refl

  one_looked : (e p t : Bool) (n k : ℕ)
      → cond (e && not p) (suc n) n + cond (e && not (p || e && t)) k 0 ≡ n + cond (e && not p) (suc (cond t 0 k)) 0
  one_looked true true t n k = refl
  one_looked true false true n k = omega arith
  one_looked true false false n k = omega arith
  one_looked false p t n k = refl

  same : (e p : Bool) → p ≡ (p || e && false)
  same true true = refl
  same true false = refl
  same false true = refl
  same false false = refl

  still_true : (b : Bool) → b ≡ (b && true)
  still_true true = refl
  still_true false = refl

  nothing : (b : Bool) (n : ℕ) → n ≡ n + cond b 0 0
  nothing true n = omega arith
  nothing false n = omega arith

  literals_read : (e p : Bool) (n : ℕ) (ls : Clause)
      → fold (read_row s) (reading e p n) (map literal_row ls)
      ≡ reading e (p || e && any (literal_true s) ls) (n + cond (e && not p) (looked_clause s ls) 0)
  literals_read e p n [] = λ z. reading e (same e p z) (nothing (e && not p) n z)
  literals_read e p n (l ∷ ls) =
      ap (λ (w : Reading). fold (read_row s) w (map literal_row ls)) (one_literal e p l.holds n l.fact)
      ∙ literals_read e (p || e && literal_true s l) (cond (e && not p) (suc n) n) ls
      ∙ (λ z. reading e (one_more e p (literal_true s l) (any (literal_true s) ls) z) (one_looked e p (literal_true s l) n (looked_clause s ls) z))

  both : (b t r : Bool) (n k m : ℕ) (j : ℕ)
      → evaluated (b && (b && t) && r) (n + cond (b && true) k 0 + cond (b && (b && t)) m 0) j
      ≡ evaluated (b && (t && r)) (n + cond b (k + cond t m 0) 0) j
  both true t r n k m j = let e : n + k + cond t m 0 ≡ n + (k + cond t m 0) = omega arith in rw e
  both false t r n k m j = let e : n + 0 + 0 ≡ n + 0 = omega arith in rw e

  pub condition_read : (e p : Bool) (n j : ℕ) (c : Condition)
      → finish (fold (read_row s) (reading e p n) (condition_rows c)) j
      ≡ evaluated (e && p && is_true s c) (n + cond (e && p) (looked_at s c) 0) j
  condition_read e p n j [] = λ z. evaluated (still_true (e && p) z) (nothing (e && p) n z) j
  condition_read e p n j (ls ∷ c) =
      ap (λ (w : Reading). finish w j)
      (fold-append (read_row s) (reading (e && p) false n) (map literal_row ls) (condition_rows c)
      ∙ ap (λ (w : Reading). fold (read_row s) w (condition_rows c)) (literals_read (e && p) false n ls))
      ∙ condition_read (e && p) ((e && p) && any (literal_true s) ls) (n + cond (e && p && true) (looked_clause s ls) 0) j c
      ∙ both (e && p) (any (literal_true s) ls) (is_true s c) n (looked_clause s ls) (looked_at s c) j

  -- a condition's rows, with something after them that is neither clause nor literal
  pub condition_spelled : (i : ℕ) (c : Condition) (xs : List Row) → Stops in_condition xs
      → run (read_row s) in_condition finish begin i (condition_rows c ++ xs)
      ≡ read_as s c (i + length (condition_rows c))
  condition_spelled i c xs h =
      run_through (read_row s) in_condition finish begin i (condition_rows c) xs
      (condition_passes (passes in_condition) (λ v. tt) (λ v. tt) (λ v. tt) c)
      ∙ run-stop (read_row s) in_condition finish (fold (read_row s) begin (condition_rows c)) (i + length (condition_rows c)) xs h
      ∙ condition_read true true 0 (i + length (condition_rows c)) c
      ∙ let e : 0 + looked_at s c ≡ looked_at s c = omega arith in rw e

  -- the same where they stand from row i on
  pub condition_at : (ms vs : List ℕ) (i : ℕ) (c : Condition) (xs : List Row)
      → drop i (paired ms vs) ≡ condition_rows c ++ xs → Stops in_condition xs
      → evaluate_at s begin ms vs i ≡ read_as s c (i + length (condition_rows c))
  unfolding run_at
  condition_at ms vs i c xs e h = rw e (condition_spelled i c xs h)

  -- the row after a condition, whatever the rows are
  pub condition_ends : (c : Reading) (ms vs : List ℕ) (i : ℕ)
      → (i ≤ (evaluate_at s c ms vs i).next) × ((evaluate_at s c ms vs i).next ≤ i + length (drop i (paired ms vs)))
  unfolding run_at
  condition_ends c ms vs i = build (run_ends (read_row s) in_condition finish c i (drop i (paired ms vs)))
    where
      build : (c' : Reading) × (j : ℕ) × (i ≤ j) × (j ≤ i + length (drop i (paired ms vs)))
          × (run (read_row s) in_condition finish c i (drop i (paired ms vs)) ≡ finish c' j)
          → (i ≤ (run (read_row s) in_condition finish c i (drop i (paired ms vs))).next)
          × ((run (read_row s) in_condition finish c i (drop i (paired ms vs))).next ≤ i + length (drop i (paired ms vs)))
      build (c', j, lo, hi, e) = let n = ap (λ (r : Evaluated). r.next) e in (omega arith, omega arith)

  -- within the rows where it begins there
  pub condition_within : (ms vs : List ℕ) (i : ℕ) → i ≤ length ms → (r : Evaluated) → r ≡ evaluate_at s begin ms vs i → r.next ≤ length ms
  condition_within ms vs i h r e =
      omega (arith, (condition_ends begin ms vs i).1, length-drop i (paired ms vs), length-paired ms vs, ap (λ (x : Evaluated). x.next) e)
