-- Where the actions of a task begin among its rows.
use Rattle.std.specs.Prelude.{◌≡◌, cond, List, [], ◌∷◌, ◌++◌, map, ℕ, ◌+◌, ◌<◌, T, eqb, ltb, length, take, get_or}
use Rattle.lists.specs.Lists.{all, concat_map}
use Rattle.task.specs.Marks.{ACTION, GOAL, START}
use Rattle.meaning.specs.Task.{Task}
use Rattle.task.specs.TaskRows.{row, condition_rows, action_rows}
use Rattle.layout.specs.Rows.{Spells}

-- the rows whose mark is ACTION, of marks of which the first is row i's
unfoldable pub actions_from : ℕ → List ℕ → List ℕ
actions_from i [] = []
actions_from i (m ∷ ms) = cond (eqb m ACTION) (i ∷ actions_from (i + 1) ms) (actions_from (i + 1) ms)

-- the row of action k: START rows, the goal and the actions below k stand before it
abbrev pub action_row : Task → ℕ → ℕ
action_row t k =
    length (map (row START) t.start ++ (row GOAL 0 ∷ condition_rows t.goal) ++ concat_map action_rows (take k t.actions))

-- entry k is the row of action k
abbrev pub Noted : Task → List ℕ → Type 0
Noted t starts = (k : ℕ) → k < length t.actions → get_or starts k 0 ≡ action_row t k

-- row i opens action k of t
pub record ActionAt (ms vs : List ℕ) (i : ℕ) (t : Task) (k : ℕ) : Type 0 where
  pub spells : Spells ms vs t
  pub known : k < length t.actions
  pub begins : i ≡ action_row t k

abbrev pub SomeAction : List ℕ → List ℕ → ℕ → Type 0
SomeAction ms vs i = (t : Task) × (k : ℕ) × ActionAt ms vs i t k

abbrev pub AllBelow : ℕ → List ℕ → Type 0
AllBelow n ns = T (all (λ (k : ℕ). ltb k n) ns)
