-- Request 12's task: each effect becomes several, one per choice of a literal from every clause of its condition, the first clause varying
-- slowest. Choices are by place: a literal that stands twice in a clause gives two effects. Everything else is copied.
use Rattle.std.specs.Prelude.{Bool, List, [], ◌∷◌, map, ℕ, ◌*◌, eqb, length}
use Rattle.lists.specs.Lists.{singleton, all, concat_map}
use Rattle.meaning.specs.Task.{Literal, Clause, Condition, Effect, Action, Task}
use Rattle.task.specs.TaskRows.{task_rows}
use Rattle.task.specs.File.{file_of, task_of}

-- one literal from every clause
abbrev pub choices : Condition → List (List Literal)
choices [] = singleton []
choices (c ∷ cs) = concat_map (λ (l : Literal). map (λ (ls : List Literal). l ∷ ls) (choices cs)) c

-- how many there are; a condition without clauses has one
abbrev pub choice_count : Condition → ℕ
choice_count [] = 1
choice_count (c ∷ cs) = length c * choice_count cs

-- each literal of a choice is a clause alone
abbrev pub chosen : Effect → List Literal → Effect
chosen e ls = record { condition = map singleton ls; adds = e.adds; deletes = e.deletes }

abbrev pub singled_effect : Effect → List Effect
singled_effect e = map (chosen e) (choices e.condition)

abbrev pub singled_action : Action → Action
singled_action a = record { cost = a.cost; precondition = a.precondition; effects = concat_map singled_effect a.effects }

unfoldable pub singled : Task → Task
singled t =
    record {
      facts = t.facts;
      start = t.start;
      goal = t.goal;
      actions = map singled_action t.actions;
      preferences = t.preferences;
    }

-- every condition of an effect has clauses of one literal

abbrev pub is_single : Clause → Bool
is_single c = eqb (length c) 1

abbrev pub single_effects : Action → Bool
single_effects a = all (λ (e : Effect). all is_single e.condition) a.effects

-- Its file

abbrev pub singled_file : List ℕ → List ℕ
singled_file b = file_of (singled (task_of b))

abbrev pub singled_rows : List ℕ → ℕ
singled_rows b = length (task_rows (singled (task_of b)))
