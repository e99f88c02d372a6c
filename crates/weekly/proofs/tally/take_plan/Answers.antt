-- The turn is that of the judged plan, by `Taking`.
use mathlib.Core.Path.{sym, ap, ◌∙◌}
use Rattle.plan.specs.Answers.{walked_as}
use Rattle.weekly.specs.Answers.{as_tally}
use Rattle.weekly.proofs.Taking.{room_left, turn_walked}
use Rattle.weekly.proofs.tally.take_plan.Goals as goal

pub take_verdict-requires : goal.take_verdict-requires
take_verdict-requires c =
    let a = c.args in record {
      file_value = (c.requires.0, (a.plan.now, _, sym (ap walked_as c.in-Ok.is) ∙ c.walk_on-w.ensures));
      room = room_left a.k a.t.now c.requires.1 c.requires.2;
    }

pub returns-in-Ok : goal.returns-in-Ok
returns-in-Ok c =
    let a = c.args in
    c.take_verdict.ensures
    ∙ turn_walked a.file.now a.plan.now _ (sym (ap walked_as c.in-Ok.is) ∙ c.walk_on-w.ensures) a.k (as_tally a.t.now)

pub returns-in-Err : goal.returns-in-Err
returns-in-Err c =
    let a = c.args in
    rw c.at.ensures (turn_walked a.file.now a.plan.now _ (sym (ap walked_as c.in-Err.is) ∙ c.walk_on-w.ensures) a.k (as_tally a.t.now))
