-- The rows from row i on, spelled as a loop goes: a run at once, or one row that stands in no run.
use mathlib.Core.Path.{◌≡◌, refl, sym, ap, ◌∙◌}
use mathlib.Core.Bool.{Bool, true, false, cond}
use mathlib.Core.List.{List, [], ◌∷◌, ◌++◌, append-nil}
use Prim.Native.Nat.{ℕ, ◌+◌, ◌<◌, ◌≤◌}
use native.Mathlib.Omega.{arith}
use lib.Dec.{leb}
use lib.ListN.{length, drop, get_or, length-drop}
use lib.Seq.{drop-drop}
use borrow.Author.Tests.{le-leb}
use Rattle.lists.proofs.Tests.{both_true}
use Rattle.task.specs.Marks.{HOLDS, LACKS, DELETE}
use Rattle.task.specs.TaskRows.{Row, row}
use Rattle.task.specs.File.{paired}
use Rattle.task.specs.Rows.{value_at, between, run, run_at}
use Rattle.task.proofs.Bytes.{length-paired}
use Rattle.task.proofs.Reading.{row_at, row_end, goes_on, run_ends}
use Rattle.spelling.specs.Runs.{is_listed, first_mark, second_mark, Sets, none, take_in, Run, ended, gather_at, rising_rows}
use Rattle.spelling.specs.Spelled.{outside, inside, begun, spelled_from, spelled_rows}

one_on : (zs : List Row) (i : ℕ) (x : Row) (xs : List Row) → drop i zs ≡ x ∷ xs → drop (i + 1) zs ≡ xs
one_on zs i x xs e = sym (drop-drop 1 i zs) ∙ ap (drop 1) e

-- a run, and what stands after it; the rows zs from row i on are xs
module _ (a b : ℕ) (zs : List Row) where
  run_spelled : (s : Sets) (i : ℕ) (xs : List Row) → drop i zs ≡ xs
      → spelled_from (inside a b s) xs
      ≡ rising_rows a b (run (take_in a) (between a b) ended s i xs).sets ++ spelled_from outside (drop (run (take_in a) (between a b) ended s i xs).next zs)
  unfolding run
  run_spelled s i [] e = rw e (sym (append-nil (rising_rows a b s)))
  run_spelled s i (x ∷ xs) e = go (between a b x.mark) (run_spelled (take_in a s x) (i + 1) xs (one_on zs i x xs e))
    where
      go : (t : Bool)
          → spelled_from (inside a b (take_in a s x)) xs
          ≡ rising_rows a b (run (take_in a) (between a b) ended (take_in a s x) (i + 1) xs).sets
          ++ spelled_from outside (drop (run (take_in a) (between a b) ended (take_in a s x) (i + 1) xs).next zs)
          → cond t (spelled_from (inside a b (take_in a s x)) xs) (rising_rows a b s ++ spelled_from outside (x ∷ xs))
          ≡ rising_rows a b (cond t (run (take_in a) (between a b) ended (take_in a s x) (i + 1) xs) (ended s i)).sets
          ++ spelled_from outside (drop (cond t (run (take_in a) (between a b) ended (take_in a s x) (i + 1) xs) (ended s i)).next zs)
      go true rest = rest
      go false rest = rw e refl

-- the marks of a row's run take it in
own_run : (m : ℕ) → is_listed m ≡ true → between (first_mark m) (second_mark m) m ≡ true
own_run m h = go (leb m LACKS) refl
  where
    go : (t : Bool) → leb m LACKS ≡ t → between (cond t HOLDS m) (cond t LACKS m) m ≡ true
    go true e = rw ((both_true (leb HOLDS m) (leb m DELETE) h).0, e)
    go false e = let l : m ≤ m = omega arith in rw (le-leb m m l)

module _ (ms vs : List ℕ) (i : ℕ) (l : i < length ms) where
  abbrev m : ℕ
  m = get_or ms i 0

  abbrev onward : ℕ → List Row
  onward j = spelled_from outside (drop j (paired ms vs))

  -- row i stands in no run
  pub next_row : is_listed m ≡ false → onward i ≡ row m (value_at vs i) ∷ onward (i + 1)
  next_row h = rw (row_at ms vs i l, h)

  abbrev its_run : Run
  its_run = gather_at (first_mark m) (second_mark m) none ms vs i

  gathered : is_listed m ≡ true → its_run ≡ gather_at (first_mark m) (second_mark m) (take_in (first_mark m) none (row m (value_at vs i))) ms vs (i + 1)
  gathered h = goes_on (take_in (first_mark m)) (between (first_mark m) (second_mark m)) ended none ms vs i l (own_run m h)

  begins : is_listed m ≡ true → onward i ≡ spelled_from (begun (row m (value_at vs i))) (drop (i + 1) (paired ms vs))
  begins h = rw (row_at ms vs i l, h)

  -- or in a run, and what stands after it
  its_rows : is_listed m ≡ true → onward i ≡ rising_rows (first_mark m) (second_mark m) its_run.sets ++ onward its_run.next
  unfolding run_at
  its_rows h =
      begins h
      ∙ run_spelled (first_mark m) (second_mark m) (paired ms vs) (take_in (first_mark m) none (row m (value_at vs i))) (i + 1) (drop (i + 1) (paired ms vs)) refl
      ∙ ap (λ (r : Run). rising_rows (first_mark m) (second_mark m) r.sets ++ onward r.next) (sym (gathered h))

  -- which ends at a later row, or after the last
  its_end : is_listed m ≡ true → (i < its_run.next) × (its_run.next ≤ length ms)
  unfolding run_at
  its_end h =
      build (run_ends (take_in (first_mark m)) (between (first_mark m) (second_mark m)) ended (take_in (first_mark m) none (row m (value_at vs i))) (i + 1)
      (drop (i + 1) (paired ms vs)))
    where
      build : (s : Sets) × (j : ℕ) × (i + 1 ≤ j) × (j ≤ i + 1 + length (drop (i + 1) (paired ms vs)))
          × (gather_at (first_mark m) (second_mark m) (take_in (first_mark m) none (row m (value_at vs i))) ms vs (i + 1) ≡ ended s j)
          → (i < its_run.next) × (its_run.next ≤ length ms)
      build (s, j, lo, hi, e) =
          let n : its_run.next ≡ j = ap (λ (r : Run). r.next) (gathered h ∙ e) in
          (omega arith, omega (arith, length-drop (i + 1) (paired ms vs), length-paired ms vs))

  -- the same of the run r that was gathered with marks found
  module _ (h : is_listed m ≡ true) (a b : ℕ) (r : Run) (p : a ≡ first_mark m) (q : b ≡ second_mark m) (e : r ≡ gather_at a b none ms vs i) where
    found : r ≡ its_run
    found = e ∙ λ z. gather_at (p z) (q z) none ms vs i

    pub next_run : onward i ≡ rising_rows a b r.sets ++ onward r.next
    next_run = its_rows h ∙ λ z. rising_rows (sym p z) (sym q z) (sym found z).sets ++ onward (sym found z).next

    pub run_goes : (i < r.next) × (r.next ≤ length ms)
    run_goes =
        let n : r.next ≡ its_run.next = ap (λ (x : Run). x.next) found in
        (omega (arith, (its_end h).0), omega (arith, (its_end h).1))

pub no_row : (ms vs : List ℕ) (i : ℕ) → length ms ≤ i → spelled_from outside (drop i (paired ms vs)) ≡ []
no_row ms vs i h = rw (row_end ms vs i h)

pub whole_rows : (xs : List Row) → spelled_from outside xs ≡ spelled_rows xs
unfolding spelled_rows
whole_rows xs = refl
