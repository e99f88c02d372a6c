-- The place of an effect with too many choices, and the file of the new task.
use Rattle.std.specs.Prelude.{◌≡◌, List, ℕ, ◌≤◌, ◌<◌, T, length, get_or, Result, Ok, Err}
use Rattle.std.proofs.Math.Option.{Option, none, some}
use Rattle.meaning.specs.Task.{Task}
use Rattle.task.specs.Marks.{EFFECT}
use Rattle.task.specs.TaskRows.{task_rows}
use Rattle.task.specs.File.{paired}
use Rattle.outcome.specs.Outcome.{area_after}
use Rattle.outcome.specs.Answers.{answer}
use Rattle.task.specs.declared.Refusal.{Refusal}
use Rattle.singling.specs.Wide.{all_narrow}
use Rattle.singling.specs.Outcome.{rows_fitted}

-- the row at which an effect is refused, or none
abbrev pub place_in : Result ℕ Refusal → Option ℕ
place_in (Ok last) = none
place_in (Err r) = some r.place

-- no effect begins from row `from` up to row `to`
abbrev pub NoEffects : List ℕ → ℕ → ℕ → Type 0
NoEffects ms from to = (m : ℕ) → from ≤ m → m < to → get_or ms m 0 ≡ EFFECT → ⊥

-- the rows are those of t, whose effects have few choices
pub record Narrow (ms vs : List ℕ) (t : Task) : Type 0 where
  pub spelled : paired ms vs ≡ task_rows t
  pub narrow : T (all_narrow t)

-- r is due for the file, of n rows, and an area as long as b, and the area holds what r says
pub record Fitted (n : ℕ) (file b : List ℕ) (r : Result ℕ Refusal) (out : List ℕ) : Type 0 where
  pub answering : answer r ≡ rows_fitted n (length b) none
  pub area : out ≡ area_after file b (answer r)
