-- What is due and written where the rows spell a task whose translation is not too large.
use Rattle.std.specs.Prelude.{◌≡◌, Result, List, ℕ, ◌+◌, ◌*◌, ◌≤◌, length}
use Rattle.meaning.specs.Task.{Task}
use Rattle.task.specs.TaskRows.{task_rows}
use Rattle.task.specs.File.{file_of}
use Rattle.task.specs.Limits.{MAX_ACTIONS, MAX_FACTS, MAX_ROWS}
use Rattle.classical.specs.Translation.{further, translated}
use Rattle.outcome.specs.Outcome.{area_after}
use Rattle.outcome.specs.Answers.{answer}
use Rattle.task.specs.declared.Refusal.{Refusal}
use Rattle.writer.specs.Writer.{row_after}
use Rattle.translated_rows.specs.Parts.{read_task, Source, translated_rows}
use Rattle.translation.specs.Translated.{rows_fitted}
use Rattle.translation.specs.declared.measures.Measures.{Measures}

-- the rows spell a task of A actions and D facts D1, D2, …, whose translation is not too large
pub record Sized (ms vs : List ℕ) (F A P D : ℕ) : Type 0 where
  pub source : Source ms vs F P
  pub actions_are : A ≡ length (read_task F ms vs).actions
  pub further_are : D ≡ further (read_task F ms vs).preferences
  pub few_facts : F + 3 * P + 2 + D ≤ MAX_FACTS
  pub few_actions : A + 2 * P + 1 ≤ MAX_ACTIONS

-- the rows' translation has as many rows as were counted, no more than a file may have
pub record Counted (ms vs : List ℕ) (m : Measures) : Type 0 where
  pub rows_are : m.rows ≡ row_after 0 (length (translated_rows ms vs m.sizes.facts))
  pub few_rows : m.rows ≤ MAX_ROWS

-- r is due for the translation of t and an area as long as b, and the area holds what r says
pub record Fitted (t : Task) (b : List ℕ) (r : Result ℕ Refusal) (out : List ℕ) : Type 0 where
  pub answering : answer r ≡ rows_fitted (length (task_rows (translated t))) (length b)
  pub area : out ≡ area_after (file_of (translated t)) b (answer r)
