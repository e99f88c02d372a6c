-- Which monitors are accepting, by the mark of the kind.
use mathlib.Core.Path.{◌≡◌, refl}
use Prim.Native.Nat.{ℕ}
use Rattle.meaning.specs.Task.{Kind, always, sometime, at_end, at_most_once, sometime_before, sometime_after, within, always_within}
use Rattle.task.specs.TaskRows.{kind_mark}
use Rattle.task.specs.File.{kind_of}
use Rattle.meaning.specs.Monitor.{Monitor, accepting}

-- whether a monitor accepts does not hang on the steps
pub accepting_by_mark : (k : Kind) (t : ℕ) (x : Monitor) → accepting (kind_of (kind_mark k) t) x ≡ accepting k x
accepting_by_mark always t x = refl
accepting_by_mark sometime t x = refl
accepting_by_mark at_end t x = refl
accepting_by_mark at_most_once t x = refl
accepting_by_mark sometime_before t x = refl
accepting_by_mark sometime_after t x = refl
accepting_by_mark (within n) t x = refl
accepting_by_mark (always_within n) t x = refl
