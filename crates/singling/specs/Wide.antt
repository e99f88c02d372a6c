-- Refusal 17: an effect with over 64 choices, at the first such EFFECT row.
use Rattle.std.specs.Prelude.{◌≡◌, Bool, true, false, not, cond, ◌&&◌, ◌||◌, List, [], ◌∷◌, ℕ, suc, ◌<◌, ltb, length, get_or, drop}
use Rattle.std.proofs.Math.Option.{Option, none, some}
use Rattle.lists.specs.Lists.{all, take_until}
use Rattle.task.specs.Marks.{EFFECT, CLAUSE, HOLDS, LACKS}
use Rattle.meaning.specs.Task.{Condition, Effect, Action, Task}
use Rattle.task.specs.TaskRows.{Row, row}
use Rattle.task.specs.Limits.{MAX_CHOICES}
use Rattle.task.specs.File.{has_mark, condition_of}
use Rattle.singling.specs.Singled.{choice_count}

abbrev pub is_wide : Condition → Bool
is_wide c = ltb MAX_CHOICES (choice_count c)

abbrev pub is_narrow : Effect → Bool
is_narrow e = not (is_wide e.condition)

-- every effect has at most 64 choices
abbrev pub all_narrow : Task → Bool
all_narrow t = all (λ (a : Action). all is_narrow a.effects) t.actions

-- The first EFFECT row

-- a row that stands in no condition
abbrev pub outside : Row → Bool
outside x = not (has_mark CLAUSE x || has_mark HOLDS x || has_mark LACKS x)

-- the condition that the rows begin with
abbrev pub condition_here : List Row → Condition
condition_here xs = condition_of (take_until outside xs)

-- the first EFFECT row whose condition has over 64 choices, the first of the rows being row i
abbrev pub first_wide : ℕ → List Row → Option ℕ
first_wide i [] = none
first_wide i (x ∷ xs) = cond (has_mark EFFECT x && is_wide (condition_here xs)) (some i) (first_wide (suc i) xs)

-- the same by its place: row i is one, and no row before it

abbrev pub no_row : Row
no_row = row 0 0

abbrev pub wide_at : List Row → ℕ → Bool
wide_at xs i = has_mark EFFECT (get_or xs i no_row) && is_wide (condition_here (drop (suc i) xs))

pub record FirstWide (xs : List Row) (i : ℕ) : Type 0 where
  pub within : i < length xs
  pub here : wide_at xs i ≡ true
  pub before : (j : ℕ) → j < i → wide_at xs j ≡ false
