-- What a monitor of the code stands for, and the byte that it is kept as.
use Rattle.std.specs.Prelude.{List, ℕ, ◌/◌, ◌%◌, ◌≤◌, ◌<◌, eqb, get_or}
use Rattle.task.specs.Limits.{MAX_DEADLINE}
use Rattle.meaning.specs.Monitor
use Rattle.monitor.specs.declared.Monitor.{Monitor}

-- the ages that six bits of a byte can hold
abbrev pub AGES : ℕ
AGES = 64

-- a deadline, and an age that the byte has room for
pub record Aging (steps age : ℕ) : Type 0 where
  pub few : steps ≤ MAX_DEADLINE
  pub short : age < AGES

abbrev pub as_monitor : Monitor → Monitor.Monitor
as_monitor m = record { S = m.s; B = m.b; age = m.age }

-- the monitor that a byte stands for
abbrev pub monitor_of : ℕ → Monitor.Monitor
monitor_of x = record { S = eqb (x % 2) 1; B = eqb (x / 2 % 2) 1; age = x / 4 }

-- monitor k of a list; 0 is one that has seen no state
abbrev pub monitor_at : List ℕ → ℕ → Monitor.Monitor
monitor_at l k = monitor_of (get_or l k 0)
