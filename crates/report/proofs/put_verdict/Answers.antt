-- For each verdict the function called writes its text, by its contract; a plan that solves is settled first.
use Rattle.text.proofs.Writing.{no_bytes}
use Rattle.report.proofs.put_verdict.Goals as goal

pub returns-in-Ok : goal.returns-in-Ok
returns-in-Ok c = rw (c.in-Solved.is, ← c.settle.ensures, c.in-Ok.is) c.put_worth.ensures

pub returns-in-Err : goal.returns-in-Err
returns-in-Err c = rw (c.in-Solved.is, ← c.settle.ensures, c.in-Err.is) (no_bytes c.args.out.now 0)

pub returns-in-Stopped : goal.returns-in-Stopped
returns-in-Stopped c =
    rw c.in-Stopped.is c.put_stopped.ensures

pub returns-in-GoalMissed : goal.returns-in-GoalMissed
returns-in-GoalMissed c =
    rw c.in-GoalMissed.is c.put_bytes.ensures

pub returns-in-RuleMissed : goal.returns-in-RuleMissed
returns-in-RuleMissed c =
    rw c.in-RuleMissed.is c.put_rule_missed.ensures
