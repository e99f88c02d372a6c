-- A rule read with its monitor.
use mathlib.Core.Path.{◌≡◌, ap, ◌∙◌}
use mathlib.Core.List.{List}
use Prim.Native.Nat.{ℕ, ◌<◌}
use lib.ListN.{length, get_or}
use Rattle.lists.specs.Lists.{concat_map}
use Rattle.meaning.specs.Task.{Kind, Preference}
use Rattle.meaning.specs.Monitor.{Monitor, accepting}
use Rattle.task.specs.TaskRows.{Row, preference_rows}
use Rattle.task.specs.File.{opens_hard, soft_mark, kind_of}
use Rattle.task.specs.Rows.{value_at, steps_at}
use Rattle.task.proofs.Reading.{value_at_lem}
use Rattle.task.proofs.Steps.{hard_at, kind_at}
use Rattle.layout.proofs.Starting.{within_rows_lem}
use Rattle.losses.specs.Losses.{shows}
use Rattle.lost_run.specs.Run.{RuleAt, SeenBy}
use Rattle.lost_run.specs.declared.rules.Rule.{Rule}

module _ (ms vs : List ℕ) (i : ℕ) (q : Preference) (R : RuleAt ms vs i q) where
  abbrev after : List Row
  after = concat_map preference_rows R.rest

  pub inside : i < length ms
  inside = within_rows_lem ms vs i q R.rest R.spelled

  pub weighs : value_at vs i ≡ q.weight
  weighs = value_at_lem ms vs i inside R.spelled

  pub seen_by : (m : Monitor) (k : Kind) (r : Rule) → k ≡ kind_of (soft_mark (get_or ms i 0)) (steps_at ms vs i) → r.hard ≡ opens_hard (get_or ms i 0)
      → r.weight ≡ value_at vs i → r.met ≡ accepting k m → r.broken ≡ shows k m.S m.B → SeenBy q m r
  seen_by m k r of_kind hard weight met broken =
      let kind : kind_of (soft_mark (get_or ms i 0)) (steps_at ms vs i) ≡ q.kind = kind_at ms vs i q after R.spelled inside R.spelling in
      record {
        hard = hard ∙ hard_at ms vs i q after R.spelled inside;
        weight = weight ∙ weighs;
        met = met ∙ ap (λ (k : Kind). accepting k m) (of_kind ∙ kind);
        broken = broken ∙ ap (λ (k : Kind). shows k m.S m.B) (of_kind ∙ kind);
      }
