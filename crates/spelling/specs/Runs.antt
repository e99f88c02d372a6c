-- Rows that the spelling sorts stand in runs: the literals of a clause, the ADD rows of an effect, and its DELETE rows. A run has a first
-- mark and a second, HOLDS and LACKS; of ADD rows both are ADD, of DELETE rows both are DELETE.
use Rattle.std.specs.Prelude.{Bool, not, cond, ◌&&◌, List, ◌++◌, ℕ, ◌+◌, ◌/◌, ◌%◌, ◌^◌, eqb, leb, get_or}
use Rattle.lists.specs.Lists.{concat_map, range}
use Rattle.meaning.specs.Meaning.{State as Facts}
use Rattle.task.specs.Marks.{HOLDS, LACKS, DELETE}
use Rattle.task.specs.TaskRows.{Row, row}
use Rattle.task.specs.File.{has_mark}
use Rattle.task.specs.Limits.{MAX_FACTS}
use Rattle.task.specs.Rows.{between, run_at}
use Rattle.state.specs.Member.{member, empty, single, union}
use Rattle.canonical.specs.BySets.{when}
use Rattle.spelling.specs.declared.runs.Gathered.{Gathered}

-- a mark of rows that stand in runs
abbrev pub is_listed : ℕ → Bool
is_listed = between HOLDS DELETE

-- the marks of the run that a row of mark m is in
abbrev pub first_mark : ℕ → ℕ
first_mark m = cond (leb m LACKS) HOLDS m

abbrev pub second_mark : ℕ → ℕ
second_mark m = cond (leb m LACKS) LACKS m

-- the facts of a run's rows, by their mark
pub record Sets : Type 0 where
  pub first : Facts
  pub second : Facts

abbrev pub none : Sets
none = record { first = empty; second = empty }

-- with fact n, where it is wanted
abbrev pub joined : Bool → Facts → ℕ → Facts
joined wanted f n = cond wanted (union f (single n)) f

-- the bit of fact n in word q, where it is wanted
abbrev pub mask_of : ℕ → ℕ → Bool → ℕ
mask_of n q wanted = cond (eqb (n / 64) q && wanted) (2 ^ (n % 64)) 0

-- with fact n in the first set, or in the second
abbrev pub with_fact : Bool → Sets → ℕ → Sets
with_fact in_first s n = record { first = joined in_first s.first n; second = joined (not in_first) s.second n }

abbrev pub take_in : ℕ → Sets → Row → Sets
take_in a s x = with_fact (has_mark a x) s x.value

-- four words: two of the first set, then two of the second
abbrev pub sets_in : List ℕ → Sets
sets_in ws =
    record {
      first = member (record { low = get_or ws 0 0; high = get_or ws 1 0 });
      second = member (record { low = get_or ws 2 0; high = get_or ws 3 0 });
    }

-- which of them is word q of the first set, or of the second
abbrev pub slot_of : Bool → ℕ → ℕ
slot_of in_first q = cond in_first q (2 + q)

-- the sets of a run, and the row after it
pub record Run : Type 0 where
  pub sets : Sets
  pub next : ℕ

abbrev pub ended : Sets → ℕ → Run
ended s i = record { sets = s; next = i }

-- the run of the marks a and b that row i is in, or stands before, with the sets of the rows before it
abbrev pub gather_at : ℕ → ℕ → Sets → List ℕ → List ℕ → ℕ → Run
gather_at a b = run_at (take_in a) (between a b) ended

abbrev pub as_run : Gathered → Run
as_run g = record { sets = record { first = member g.first; second = member g.second }; next = g.next }

-- Rows by rising fact

-- a fact's rows, the first mark before the second
abbrev pub fact_rows : ℕ → ℕ → Bool → Bool → ℕ → List Row
fact_rows a b in_first in_second n = when in_first (row a n) ++ when in_second (row b n)

-- of 64 facts from base on
unfoldable pub word_rows : ℕ → ℕ → ℕ → Facts → Facts → List Row
word_rows a b base f g = concat_map (λ (n : ℕ). fact_rows a b (f n) (g n) (base + n)) (range 0 64)

-- of all facts
unfoldable pub rising_rows : ℕ → ℕ → Sets → List Row
rising_rows a b s = concat_map (λ (n : ℕ). fact_rows a b (s.first n) (s.second n) n) (range 0 MAX_FACTS)
