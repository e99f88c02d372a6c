-- The lines of a judged plan: document 01, 'A belt and a gate', and requests 6 and 8.
use Rattle.std.specs.Prelude.{Bool, true, false, List, [], ◌++◌, ℕ, ℤ}
use Rattle.meaning.specs.Task.{Kind, always, sometime, at_end, at_most_once, sometime_before, sometime_after, within, always_within}
use Rattle.text.specs.Ascii.{ascii}
use Rattle.text.specs.Text.{decimal, integer}

-- kinds are spelled as in the table of marks
abbrev pub kind_word : Kind → List ℕ
kind_word always = ascii "always"
kind_word sometime = ascii "sometime"
kind_word at_end = ascii "at-end"
kind_word at_most_once = ascii "at-most-once"
kind_word sometime_before = ascii "sometime-before"
kind_word sometime_after = ascii "sometime-after"
kind_word (within t) = ascii "within"
kind_word (always_within t) = ascii "always-within"

-- with hard- before that of a hard preference
abbrev pub hard_word : Bool → List ℕ
hard_word true = ascii "hard-"
hard_word false = []

abbrev pub full_kind : Bool → Kind → List ℕ
full_kind hard k = hard_word hard ++ kind_word k

abbrev pub outcome_word : Bool → List ℕ
outcome_word true = ascii "met"
outcome_word false = ascii "missed"

-- the plan's length and cost
unfoldable pub solved_line : ℕ → ℕ → List ℕ
solved_line steps cost = ascii "solved steps " ++ decimal steps ++ ascii " cost " ++ decimal cost ++ ascii "\n"

-- number, kind, weight and outcome
unfoldable pub preference_line : ℕ → Bool → Kind → ℕ → Bool → List ℕ
preference_line k hard kind weight is_met =
    decimal k ++ ascii " " ++ full_kind hard kind ++ ascii " " ++ decimal weight ++ ascii " " ++ outcome_word is_met ++ ascii "\n"

unfoldable pub amounts_line : ℕ → ℤ → List ℕ
amounts_line metric utility = ascii "metric " ++ decimal metric ++ ascii " utility " ++ integer utility ++ ascii "\n"

unfoldable pub stopped_line : ℕ → List ℕ
stopped_line step = ascii "stopped " ++ decimal step ++ ascii "\n"

unfoldable pub rule_missed_line : ℕ → List ℕ
rule_missed_line rule = ascii "rule missed " ++ decimal rule ++ ascii "\n"
