-- On the START rows of a task, what is read is its opening state.
use mathlib.Core.Path.{◌≡◌, refl, ap, ◌∙◌, fun_ext}
use mathlib.Core.Bool.{Bool, true}
use mathlib.Core.List.{List, [], ◌∷◌, ◌++◌, map}
use Prim.Native.Nat.{ℕ, ◌+◌, ◌≤◌}
use native.Mathlib.Nat.{zero-add}
use native.Mathlib.Omega.{arith}
use lib.Dec.{T, eqb}
use lib.ListN.{length, length-map}
use Rattle.task.specs.Marks.{START}
use Rattle.lists.specs.Lists.{elem}
use Rattle.meaning.specs.Task.{facts_below}
use Rattle.task.specs.TaskRows.{Row, row}
use Rattle.task.specs.File.{paired}
use Rattle.meaning.specs.Meaning.{State as Facts}
use Rattle.task.specs.Rows.{run, run_at, Stops}
use Rattle.lists.proofs.Tests.{all_map}
use Rattle.task.proofs.Bytes.{length-paired}
use Rattle.task.proofs.Reading.{passes, fold, run-stop, run_through, run_ends}
use Rattle.state.specs.Member.{empty}
use Rattle.reading.specs.Effects.{all_marked, Result}
use Rattle.reading.specs.Opening.{open_row, opened, open_at}
use Rattle.reading.proofs.EffectRows.{marked_all}

starts_read : (f : Facts) (ns : List ℕ) → fold open_row f (map (row START) ns) ≡ all_marked true f ns
starts_read f [] = refl
starts_read f (n ∷ ns) = starts_read (open_row f (row START n)) ns

abbrev pub is_start : ℕ → Bool
is_start m = eqb m START

-- START rows at the beginning, with something else after them
pub opening_at_lem : (F : ℕ) → F ≤ 128 → (ms vs ns : List ℕ) (xs : List Row)
    → paired ms vs ≡ map (row START) ns ++ xs → Stops is_start xs → T (facts_below F ns)
    → open_at empty ms vs 0 ≡ record { state = λ (n : ℕ). elem n ns; next = length ns }
unfolding run_at
opening_at_lem F few ms vs ns xs e h below =
    rw e
    (run_through open_row is_start opened empty 0 (map (row START) ns) xs (all_map (passes is_start) (row START) (λ v. tt) ns)
    ∙ run-stop open_row is_start opened (fold open_row empty (map (row START) ns)) (0 + length (map (row START) ns)) xs h
    ∙ (λ i. record {
      state = (starts_read empty ns ∙ fun_ext (λ m. marked_all F few true empty ns m below)) i;
      next = (zero-add (length (map (row START) ns)) ∙ length-map ns (row START)) i;
    }))

-- the row after the START rows, whatever the rows are
pub opening_ends : (ms vs : List ℕ) → (open_at empty ms vs 0).next ≤ length ms
unfolding run_at
opening_ends ms vs = build (run_ends open_row is_start opened empty 0 (paired ms vs))
  where
    build : (f : Facts) × (j : ℕ) × (0 ≤ j) × (j ≤ 0 + length (paired ms vs)) × (run open_row is_start opened empty 0 (paired ms vs) ≡ opened f j)
        → (run open_row is_start opened empty 0 (paired ms vs)).next ≤ length ms
    build (f, j, lo, hi, e) = let n = ap (λ (r : Result). r.next) e in omega (arith, length-paired ms vs)
