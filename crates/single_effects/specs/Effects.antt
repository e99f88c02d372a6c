-- Where a condition and an effect stand among the rows, and which choice of it is written.
use Rattle.std.specs.Prelude.{◌≡◌, List, ◌++◌, map, ℕ, ◌+◌, ◌/◌, ◌%◌, ◌≤◌, ◌<◌, length, drop}
use Rattle.lists.specs.Lists.{singleton}
use Rattle.task.specs.Marks.{CLAUSE, HOLDS, LACKS, ADD, DELETE}
use Rattle.meaning.specs.Task.{Condition, Effect}
use Rattle.task.specs.TaskRows.{Row, row, condition_rows, effect_rows}
use Rattle.task.specs.File.{paired}
use Rattle.task.specs.Rows.{between, Stops}
use Rattle.task.specs.Limits.{MAX_ROWS}
use Rattle.layout.specs.Sides.{end_at, part}
use Rattle.layout.specs.declared.sides.Span.{Span}
use Rattle.singling.specs.Singled.{choice_count, chosen}
use Rattle.task.specs.Limits.{MAX_CHOICES}
use Rattle.singling.specs.ByNumber.{choice_at}
use Rattle.single_effects.specs.Shapes.{InOrder}
use Rattle.single_effects.specs.declared.shapes.Shape.{Shape}
use Rattle.single_effects.specs.declared.choosing.Pick.{Pick}
use Rattle.single_effects.specs.declared.choosing.Digit.{Digit}

-- where the span begins with a clause, it ends with it
abbrev pub Known : List ℕ → Span → Type 0
Known ms s = s.from < length ms → s.to ≡ end_at HOLDS LACKS ms (s.from + 1)

-- the digit of p for a clause of n literals: which literal, and the choice of the clauses after it
abbrev pub digit_of : Pick → ℕ → Digit
digit_of p n =
    record { literal = p.number / (p.choices / n); later = record { choices = p.choices / n; number = p.number % (p.choices / n) } }

pub record Dividing (p : Pick) (n : ℕ) : Type 0 where
  pub some_literals : 0 < n
  pub few_literals : n ≤ MAX_ROWS
  pub some_later : 0 < p.choices / n
  pub one_of : p.number < p.choices

-- the rows of the span are those of c, and no more of it stands after them
pub record ConditionAt (ms vs : List ℕ) (s : Span) (c : Condition) : Type 0 where
  pub there : drop s.from (paired ms vs) ≡ condition_rows c ++ drop s.to (paired ms vs)
  pub stops : Stops (between CLAUSE LACKS) (drop s.to (paired ms vs))
  pub long : s.to ≡ s.from + length (condition_rows c)
  pub inside : s.to ≤ length ms

-- p is one of the choices of c
pub record Choosable (ms vs : List ℕ) (s : Span) (p : Pick) (c : Condition) : Type 0 where
  pub condition : ConditionAt ms vs s c
  pub all_of : p.choices ≡ choice_count c
  pub one_of : p.number < p.choices

-- a choice: each literal is a clause alone
abbrev pub picked_rows : Condition → ℕ → List Row
picked_rows c j = condition_rows (map singleton (choice_at c j))

abbrev pub change_rows : Effect → List Row
change_rows e = map (row ADD) e.adds ++ map (row DELETE) e.deletes

-- row `at` opens the effect e of the shape s, which has few choices
pub record EffectAt (ms vs : List ℕ) (at : ℕ) (s : Shape) (e : Effect) : Type 0 where
  pub condition : ConditionAt ms vs (record { from = at + 1; to = s.changes.from }) e.condition
  pub changes : part ms vs s.changes ≡ change_rows e
  pub order : InOrder ms at s
  pub choices : s.choices ≡ choice_count e.condition
  pub clauses : s.clauses ≡ length e.condition
  pub few : s.choices ≤ MAX_CHOICES

-- the effect of choice j
abbrev pub picked_effect : Effect → ℕ → List Row
picked_effect e j = effect_rows (chosen e (choice_at e.condition j))
