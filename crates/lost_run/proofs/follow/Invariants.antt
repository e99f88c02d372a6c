-- The loop keeps what the list comes to from here on, by `Following`.
use Rattle.meaning.specs.Task.{Task}
use Rattle.lost_run.specs.Run.{Setting, Opens}
use Rattle.lost_run.proofs.Following.{Running}
use Rattle.lost_run.proofs.follow.Given as goal

abbrev pub invariant-loop-i : goal.invariant-loop-i
invariant-loop-i l =
    Running (λ (t : Task). Setting l.rows.marks.now l.rows.values.now l.at l.starts l.rules t × Opens l.initial.p.state t) l.list l.p l.ms l.i
