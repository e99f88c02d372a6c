-- The weights of met preferences and of the others, counted one by one.
use Rattle.std.specs.Prelude.{Bool, cond, ℕ, ◌+◌, ◌<◌}
use Rattle.task.specs.TaskRows.{Row}
use Rattle.layout.specs.Counting.{MANY, AMPLE}
use Rattle.settling.specs.declared.amounts.Weights.{Weights}

-- there is room for one preference more
pub record Room (t : Weights) : Type 0 where
  pub number : t.number < MANY
  pub met : t.met < AMPLE
  pub missed : t.missed < AMPLE

-- of so many preferences
pub record Weighed : Type 0 where
  pub number : ℕ
  pub met : ℕ
  pub missed : ℕ

abbrev pub nothing : Weighed
nothing = record { number = 0; met = 0; missed = 0 }

-- one preference more, by the row that opens it
abbrev pub weighed : (ℕ → Bool) → Weighed → Row → Weighed
weighed met t x =
    cond (met t.number)
    (record { number = t.number + 1; met = t.met + x.value; missed = t.missed })
    (record { number = t.number + 1; met = t.met; missed = t.missed + x.value })

abbrev pub as_weights : Weights → Weighed
as_weights t = record { number = t.number; met = t.met; missed = t.missed }
