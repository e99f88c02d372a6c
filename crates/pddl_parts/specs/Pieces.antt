-- The pieces of a task that are written as their rows are read.
use Rattle.std.specs.Prelude.{Bool, List, ℕ}
use Rattle.lists.specs.Lists.{concat_map, concat_from}
use Rattle.task.specs.Marks.{ACTION, EFFECT, CLAUSE, HOLDS, LACKS, DELETE}
use Rattle.meaning.specs.Task.{Clause, Condition, Effect, Action}
use Rattle.task.specs.TaskRows.{Row, clause_rows, condition_rows, effect_rows, action_rows}
use Rattle.task.specs.Rows.{between}
use Rattle.pddl_parts.specs.Pddl.{spaced, clause_text, condition_text, effect_text, action_line}

-- the rows of a piece, its text, and the marks by which a row after the first belongs to it
pub record Piece (A : Type 0) : Type 0 where
  pub rows : A → List Row
  pub text : A → List ℕ
  pub goes : ℕ → Bool

abbrev pub clause : Piece Clause
clause = record { rows = clause_rows; text = clause_text; goes = between HOLDS LACKS }

abbrev pub condition : Piece Condition
condition = record { rows = condition_rows; text = condition_text; goes = between CLAUSE LACKS }

abbrev pub effect : Piece Effect
effect = record { rows = effect_rows; text = effect_text; goes = between CLAUSE DELETE }

-- each after a space
abbrev pub effects : Piece (List Effect)
effects = record { rows = concat_map effect_rows; text = spaced effect_text; goes = between EFFECT DELETE }

abbrev pub action : ℕ → Piece Action
action number = record { rows = action_rows; text = action_line number; goes = between EFFECT DELETE }

abbrev pub actions : Piece (List Action)
actions = record { rows = concat_map action_rows; text = concat_from action_line 0; goes = between ACTION DELETE }
