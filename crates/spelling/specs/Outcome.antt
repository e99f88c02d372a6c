-- What writing the one spelling answers: the refusals of check, then 9 over the new length. It is never longer, so that 8 can not come.
use Rattle.std.specs.Prelude.{◌≡◌, List, ℕ, ◌+◌, ◌*◌, length, Result}
use Rattle.task.specs.Check
use Rattle.task.specs.Check.{Answer, check}
use Rattle.outcome.specs.Outcome.{Outcome, refused, fitted, area_after}
use Rattle.outcome.specs.Answers.{answer}
use Rattle.task.specs.declared.Refusal.{Refusal}
use Rattle.canonical.specs.Canonical.{respelled_rows}

abbrev pub outcome_by : List ℕ → ℕ → Answer → Outcome
outcome_by b room (Check.refused n i) = refused n i
outcome_by b room (Check.accepted z) = fitted (8 + 5 * respelled_rows b) room

unfoldable pub outcome : List ℕ → ℕ → Outcome
outcome b room = outcome_by b room (check b)

-- r is due for the file and an area as long as b, and the area holds what r says
pub record Fitted (file b : List ℕ) (r : Result ℕ Refusal) (out : List ℕ) : Type 0 where
  pub answering : answer r ≡ fitted (length file) (length b)
  pub area : out ≡ area_after file b (answer r)
