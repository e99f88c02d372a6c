-- What rewriting the effects answers: the refusals of check, 17, then 8 and 9 over the new rows.
use Rattle.std.specs.Prelude.{cond, List, ℕ, ◌+◌, ◌*◌, leb}
use Rattle.std.proofs.Math.Option.{Option, none, some}
use Rattle.task.specs.Limits.{MAX_ROWS}
use Rattle.task.specs.Refused.{TRANSLATION_ROWS, CHOICES}
use Rattle.task.specs.File.{rows}
use Rattle.task.specs.Check
use Rattle.task.specs.Check.{Answer, check}
use Rattle.outcome.specs.Outcome.{Outcome, refused, fitted}
use Rattle.singling.specs.Singled.{singled_rows}
use Rattle.singling.specs.Wide.{first_wide}

-- n rows for an area of so many bytes, where no effect is too wide
abbrev pub rows_fitted : ℕ → ℕ → Option ℕ → Outcome
rows_fitted n room (some i) = refused CHOICES i
rows_fitted n room none = cond (leb n MAX_ROWS) (fitted (8 + 5 * n) room) (refused TRANSLATION_ROWS 0)

abbrev pub outcome_by : List ℕ → ℕ → Answer → Outcome
outcome_by b room (Check.refused n i) = refused n i
outcome_by b room (Check.accepted z) = rows_fitted (singled_rows b) room (first_wide 0 (rows b))

unfoldable pub outcome : List ℕ → ℕ → Outcome
outcome b room = outcome_by b room (check b)
