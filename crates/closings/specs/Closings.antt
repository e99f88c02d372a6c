-- Collect and forgo as rows, from the row that opens a preference.
use Rattle.std.specs.Prelude.{Bool, cond, List, [], ◌∷◌, ◌++◌, map, ℕ, ◌+◌, ◌-◌, ◌≤◌, ◌<◌, leb, eqb, length, get_or}
use Rattle.task.specs.Marks.{ACTION, EFFECT, HOLDS, LACKS, ADD}
use Rattle.meaning.specs.Task.{Kind, Condition, Preference}
use Rattle.task.specs.TaskRows.{Row, row, clause_rows, condition_rows}
use Rattle.task.specs.File.{soft_mark, opens_hard, kind_of}
use Rattle.task.specs.Rows.{value_at, steps_at}
use Rattle.task.specs.Answers.{as_kind}
use Rattle.classical.specs.Translation.{deny, alone, met_clause}
use Rattle.effects.specs.Effects.{single_rows}
use Rattle.kind_trackers.specs.Rows.{BEYOND}
use Rattle.closings.specs.declared.Closing.{Closing}

-- s, the first fact of a preference, has one before it
pub record Preceded (s : ℕ) : Type 0 where
  pub later : 1 ≤ s
  pub small : s < BEYOND

-- the literals of the met clause denied, each a clause
abbrev pub missed : ℕ → ℕ → Kind → Condition
missed S B k = alone (map deny (met_clause S B k))

-- what forgo of a hard preference has after them: lacks ended
abbrev pub never_rows : Bool → ℕ → List Row
never_rows hard E = cond hard (single_rows LACKS E) []

-- what both have before the outcome
abbrev pub closing_head : ℕ → Bool → ℕ → ℕ → List Row
closing_head cost first s E =
    row ACTION cost ∷ single_rows HOLDS E ++ (cond first [] (single_rows HOLDS (s - 1)) ++ single_rows LACKS (s + 2))

abbrev pub closing_rows : ℕ → Bool → ℕ → ℕ → List Row → List Row
closing_rows cost first s E outcome = closing_head cost first s E ++ (outcome ++ (row EFFECT 0 ∷ row ADD (s + 2) ∷ []))

-- the outcome that forgo needs
abbrev pub forgone_rows : ℕ → ℕ → Preference → List Row
forgone_rows s E q = condition_rows (missed s (s + 1) q.kind) ++ never_rows q.hard E

-- of a preference whose facts begin with s
abbrev pub preference_closings : Bool → ℕ → ℕ → Preference → List Row
preference_closings first s E q =
    closing_rows 0 first s E (clause_rows (met_clause s (s + 1) q.kind)) ++ closing_rows q.weight first s E (forgone_rows s E q)

-- the preference that is closed, without its conditions, of which closing has no use
abbrev pub closed : Closing → Preference
closed x = record { kind = as_kind x.kind; hard = x.hard; weight = x.weight; first = []; second = [] }

-- that of row `at`
abbrev pub opened_at : List ℕ → List ℕ → ℕ → Preference
opened_at ms vs at =
    record {
      kind = kind_of (soft_mark (get_or ms at 0)) (steps_at ms vs at);
      hard = opens_hard (get_or ms at 0);
      weight = value_at vs at;
      first = [];
      second = [];
    }

abbrev pub closings_at : List ℕ → List ℕ → ℕ → Bool → ℕ → ℕ → List Row
closings_at ms vs at first s E = cond (leb (length ms) at) [] (preference_closings first s E (opened_at ms vs at))

-- of the preferences that begin at some rows, whose facts begin with s, over F facts
abbrev pub closings_from : List ℕ → List ℕ → ℕ → ℕ → List ℕ → ℕ → List Row
closings_from ms vs F E [] s = []
closings_from ms vs F E (at ∷ more) s = closings_at ms vs at (eqb s F) s E ++ closings_from ms vs F E more (s + 3)

abbrev pub closing_by : List ℕ → List ℕ → List ℕ → ℕ → ℕ → List Row
closing_by ms vs starts F E = closings_from ms vs F E starts F
