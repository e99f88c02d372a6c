-- The met preferences, by monitors that have seen all states.
use Rattle.std.specs.Prelude.{Bool, not, cond, ◌&&◌, ◌||◌, List, ℕ, ◌+◌, ◌<◌, eqb}
use Rattle.task.specs.TaskRows.{Row}
use Rattle.task.specs.File.{opens_hard, soft_mark, kind_of}
use Rattle.meaning.specs.Meaning.{State as Facts}
use Rattle.meaning.specs.Monitor.{accepting}
use Rattle.state.specs.Member.{member, empty, single, union}
use Rattle.layout.specs.Counting.{MANY}
use Rattle.monitor.specs.Packed.{monitor_at}
use Rattle.monitors.specs.declared.met.Found.{Found}

-- so many preferences, how many of them stand before the first hard one that is missed, and those that are met
pub record Met : Type 0 where
  pub number : ℕ
  pub kept : ℕ
  pub met : Facts

-- so few that one more can be counted
pub record Countable (f : Found) : Type 0 where
  pub number : f.number < MANY
  pub kept : f.kept < MANY

abbrev pub none_met : Met
none_met = record { number = 0; kept = 0; met = empty }

-- one more is kept, where all before it are
abbrev pub kept_with : ℕ → ℕ → Bool → Bool → ℕ
kept_with number kept hard accepting = cond (eqb kept number && (not hard || accepting)) (kept + 1) kept

-- one preference more, hard or soft, met or not
abbrev pub one : Met → Bool → Bool → Met
one t hard accepting =
    cond accepting
    (record { number = t.number + 1; kept = kept_with t.number t.kept hard accepting; met = union t.met (single t.number) })
    (record { number = t.number + 1; kept = kept_with t.number t.kept hard accepting; met = t.met })

-- by the row that opens it
-- (whether a monitor is accepting does not hang on its steps)
abbrev pub found : List ℕ → Met → Row → Met
found ms t x = one t (opens_hard x.mark) (accepting (kind_of (soft_mark x.mark) 0) (monitor_at ms t.number))

abbrev pub as_found : Found → Met
as_found r = record { number = r.number; kept = r.kept; met = member r.met }
