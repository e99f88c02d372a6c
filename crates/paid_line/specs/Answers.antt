-- What the code's metric stands for.
use Rattle.std.specs.Prelude.{ℕ, Option, Some, None}
use Rattle.paid_line.specs.Paid

abbrev pub metric_as : Option ℕ → Paid.Metric
metric_as (Some m) = Paid.metric m
metric_as None = Paid.unsolved
