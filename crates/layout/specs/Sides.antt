-- Where the parts of a task end among its rows, where a preference's sides stand, and where preferences begin.
use Rattle.std.specs.Prelude.{◌≡◌, true, cond, List, [], ◌∷◌, ℕ, zero, suc, ◌+◌, ◌-◌, ◌≤◌, ◌<◌, leb, length, take, drop, get_or}
use Rattle.lists.specs.Lists.{concat_map}
use Rattle.task.specs.Marks.{CLAUSE, LACKS, SECOND, STEPS}
use Rattle.meaning.specs.Task.{Preference, two_sided}
use Rattle.task.specs.TaskRows.{Row, kind_mark, condition_rows, preference_rows}
use Rattle.task.specs.File.{paired, soft_mark}
use Rattle.task.specs.Rows.{between, run_at}
use Rattle.layout.specs.declared.sides.Span.{Span}
use Rattle.layout.specs.declared.sides.Sides.{Sides}

-- the rows from row `from` up to row `to`
abbrev pub stretch : List ℕ → List ℕ → ℕ → ℕ → List Row
stretch ms vs from to = take (to - from) (drop from (paired ms vs))

abbrev pub part : List ℕ → List ℕ → Span → List Row
part ms vs s = stretch ms vs s.from s.to

-- the first row from row i on whose mark is not between the two; values play no part, so the rows have none
abbrev pub end_at : ℕ → ℕ → List ℕ → ℕ → ℕ
end_at least most ms = run_at (λ (w : Unit {0}) (x : Row). w) (between least most) (λ (w : Unit {0}) (i : ℕ). i) tt ms []

-- the sides of the preference that row `at` opens: φ after the steps, ψ after SECOND
abbrev pub first_from : List ℕ → ℕ → ℕ
first_from ms at = end_at STEPS STEPS ms (at + 1)

abbrev pub first_to : List ℕ → ℕ → ℕ
first_to ms at = end_at CLAUSE LACKS ms (first_from ms at)

abbrev pub second_from : List ℕ → ℕ → ℕ
second_from ms at = end_at SECOND SECOND ms (first_to ms at)

abbrev pub second_to : List ℕ → ℕ → ℕ
second_to ms at = end_at CLAUSE LACKS ms (second_from ms at)

abbrev pub sides_at : List ℕ → ℕ → Sides
sides_at ms at =
    record { first = record { from = first_from ms at; to = first_to ms at }; second = record { from = second_from ms at; to = second_to ms at } }

-- the sides stand one after the other among the rows
pub record InOrder (ms : List ℕ) (at : ℕ) (p : Sides) : Type 0 where
  pub opened : at < p.first.from
  pub first_whole : p.first.from ≤ p.first.to
  pub one_first : p.first.to ≤ p.second.from
  pub second_whole : p.second.from ≤ p.second.to
  pub inside : p.second.to ≤ length ms

-- the rows of preference q, which stands at row `at` with the preferences qs after it
pub record Located (ms vs : List ℕ) (at : ℕ) (q : Preference) (qs : List Preference) (p : Sides) : Type 0 where
  pub mark : soft_mark (get_or ms at 0) ≡ kind_mark q.kind
  pub first : part ms vs p.first ≡ condition_rows q.first
  pub second : two_sided q.kind ≡ true → part ms vs p.second ≡ condition_rows q.second
  pub rest : drop p.second.to (paired ms vs) ≡ concat_map preference_rows qs

-- the row after the preference that row `at` opens
abbrev pub after_preference : List ℕ → ℕ → ℕ
after_preference ms at = cond (leb (length ms) at) at (second_to ms at)

-- the rows at which so many preferences begin, the first of them at row `at`
abbrev pub starts_from : List ℕ → ℕ → ℕ → List ℕ
starts_from ms at zero = []
starts_from ms at (suc n) = at ∷ starts_from ms (after_preference ms at) n
