-- An action with an effect of three clauses and one without a condition, computed.
use mathlib.Core.Path.{◌≡◌, refl}
use mathlib.Core.Bool.{Bool, true, false}
use mathlib.Core.List.{List, [], ◌∷◌, map}
use mathlib.Core.Option.{none, some}
use Prim.Native.Nat.{ℕ}
use Rattle.lists.specs.Lists.{singleton}
use Rattle.meaning.specs.Task.{Literal, Clause, Condition, Effect, Task, sometime}
use Rattle.task.specs.TaskRows.{task_rows}
use Rattle.task.specs.File.{file_of}
use Rattle.task.specs.Check.{check, check_rows}
use Rattle.outcome.specs.Outcome.{written, refused}
use Rattle.singling.specs.Singled.{choices, singled}
use Rattle.singling.specs.Wide.{first_wide}
use Rattle.singling.specs.Outcome.{outcome}

abbrev pub literal : Bool → ℕ → Literal
literal b n = record { holds = b; fact = n }

abbrev pub holding : List ℕ → Clause
holding = map (literal true)

-- the first clause varies slowest; a literal that stands twice is chosen twice
some-choices : choices (holding (0 ∷ 1 ∷ []) ∷ singleton (literal false 5) ∷ holding (2 ∷ 3 ∷ 2 ∷ []) ∷ [])
    ≡ (literal true 0 ∷ literal false 5 ∷ literal true 2 ∷ [])
    ∷ (literal true 0 ∷ literal false 5 ∷ literal true 3 ∷ [])
    ∷ (literal true 0 ∷ literal false 5 ∷ literal true 2 ∷ [])
    ∷ (literal true 1 ∷ literal false 5 ∷ literal true 2 ∷ [])
    ∷ (literal true 1 ∷ literal false 5 ∷ literal true 3 ∷ [])
    ∷ (literal true 1 ∷ literal false 5 ∷ literal true 2 ∷ [])
    ∷ []
some-choices = refl

no_clause : choices [] ≡ singleton []
no_clause = refl

abbrev pub effect : Condition → Effect
effect c = record { condition = c; adds = singleton 0; deletes = singleton 1 }

abbrev pub yard : List Effect → Task
yard es =
    record {
      facts = 6;
      start = singleton 1;
      goal = singleton (holding (0 ∷ 2 ∷ []));
      actions = singleton (record { cost = 3; precondition = singleton (holding (1 ∷ 2 ∷ [])); effects = es });
      preferences = singleton (record { kind = sometime; hard = false; weight = 5; first = singleton (holding (0 ∷ 3 ∷ [])); second = [] });
    }

yard_singled : singled (yard (effect (holding (0 ∷ 1 ∷ []) ∷ holding (2 ∷ 3 ∷ []) ∷ []) ∷ effect [] ∷ []))
    ≡ yard (effect (holding (singleton 0) ∷ holding (singleton 2) ∷ [])
    ∷ effect (holding (singleton 0) ∷ holding (singleton 3) ∷ [])
    ∷ effect (holding (singleton 1) ∷ holding (singleton 2) ∷ [])
    ∷ effect (holding (singleton 1) ∷ holding (singleton 3) ∷ [])
    ∷ effect []
    ∷ [])
unfolding singled
yard_singled = refl

-- 2 to the 6th choices, and 65: the second effect's row is after START, GOAL, ACTION with their clauses and the first effect

abbrev pub pairs : Condition
pairs =
    holding (0 ∷ 1 ∷ []) ∷ holding (2 ∷ 3 ∷ []) ∷ holding (4 ∷ 5 ∷ []) ∷ holding (0 ∷ 3 ∷ []) ∷ holding (1 ∷ 4 ∷ []) ∷ holding (2 ∷ 5 ∷ []) ∷ []

abbrev pub five : Clause
five = holding (0 ∷ 1 ∷ 2 ∷ 3 ∷ 4 ∷ [])

abbrev pub thirteen : Clause
thirteen = holding (0 ∷ 1 ∷ 2 ∷ 3 ∷ 4 ∷ 5 ∷ 0 ∷ 1 ∷ 2 ∷ 3 ∷ 4 ∷ 5 ∷ 0 ∷ [])

sixty_four : first_wide 0 (task_rows (yard (effect pairs ∷ []))) ≡ none
sixty_four = refl

sixty_five : first_wide 0 (task_rows (yard (effect pairs ∷ effect (five ∷ thirteen ∷ []) ∷ []))) ≡ some 30
sixty_five = refl

too_wide : outcome (file_of (yard (effect pairs ∷ effect (five ∷ thirteen ∷ []) ∷ []))) 10000 ≡ refused 17 30
unfolding outcome check check_rows
too_wide = refl

fits : outcome (file_of (yard (effect (holding (0 ∷ 1 ∷ []) ∷ []) ∷ []))) 200 ≡ written 123
unfolding outcome check check_rows singled
fits = refl

no_room : outcome (file_of (yard (effect (holding (0 ∷ 1 ∷ []) ∷ []) ∷ []))) 122 ≡ refused 9 0
unfolding outcome check check_rows singled
no_room = refl
