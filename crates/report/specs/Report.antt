-- The text of a judged plan: document 01, 'A belt and a gate', and requests 6 and 8.
use Rattle.std.specs.Prelude.{◌≡◌, Bool, List, [], ◌++◌, ℕ, length}
use Rattle.lists.specs.Lists.{concat_from}
use Rattle.meaning.specs.Task.{Preference, Task}
use Rattle.task.specs.File.{task_of}
use Rattle.meaning.specs.Verdict.{Verdict, solved, stopped, goal_missed, rule_missed}
use Rattle.plan.specs.Judged.{Judged, given, refused, judged}
use Rattle.plan.specs.Walked
use Rattle.plan.specs.Walked.{Walk, walked}
use Rattle.text.specs.Ascii.{ascii}
use Rattle.outcome.specs.Outcome.{Outcome, fitted}
use Rattle.report_lines.specs.Lines.{solved_line, preference_line, amounts_line, stopped_line, rule_missed_line}

-- The text of a plan of n steps, with the lines of the preferences by the numbers of the met ones

abbrev pub verdict_text : ((ℕ → Bool) → List ℕ) → ℕ → Verdict → List ℕ
verdict_text lines n (solved cost metric utility met) = solved_line n cost ++ lines met ++ amounts_line metric utility
verdict_text lines n (stopped step) = stopped_line step
verdict_text lines n goal_missed = ascii "goal missed\n"
verdict_text lines n (rule_missed rule) = rule_missed_line rule

-- a refused plan has no text
abbrev pub text_with : ((ℕ → Bool) → List ℕ) → ℕ → Judged → List ℕ
text_with lines n (given v) = verdict_text lines n v
text_with lines n (refused number place) = []

-- a line per preference, numbered from 0
abbrev pub preference_lines : Task → (ℕ → Bool) → List ℕ
preference_lines t met =
    concat_from (λ (k : ℕ) (p : Preference). preference_line k p.hard p.kind p.weight (met k)) 0 t.preferences

abbrev pub report_of : Task → ℕ → Judged → List ℕ
report_of t = text_with (preference_lines t)

-- the lines of program judge on the task file b and the plan p
unfoldable pub report_on : List ℕ → List ℕ → List ℕ
report_on b p = report_of (task_of b) (length p) (judged b p)

-- What comes of writing the text

-- a text of so many bytes, for an area of so many
abbrev pub report_by : ℕ → ℕ → Judged → Outcome
report_by bytes room (given v) = fitted bytes room
report_by bytes room (refused number place) = Outcome.refused number place

unfoldable pub report_outcome : List ℕ → List ℕ → ℕ → Outcome
report_outcome b p room = report_by (length (report_on b p)) room (judged b p)

-- walk gave the verdict w on the file b and the plan p, with whatever it looked at
abbrev pub WalkedTo : List ℕ → List ℕ → Walk → Type 0
WalkedTo b p w = (looked : ℕ) × (Walked.given w looked ≡ walked b p)
