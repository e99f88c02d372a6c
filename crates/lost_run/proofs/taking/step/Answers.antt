-- A step of a plan, by `Stepping`.
use Rattle.lost_run.proofs.Stepping.{little, stepped, stops}
use Rattle.lost_run.proofs.taking.step.Goals as goal

pub returns-in-Ok : goal.returns-in-Ok
returns-in-Ok c =
    let a = c.args in
    record {
      little = little a.p c.step-moved.result c.in-Ok.q c.in-Ok.is c.step-moved.ensures.little;
      stepped_as = λ t k A. stepped a.p c.step-moved.result t k c.in-Ok.q c.in-Ok.is (c.step-moved.ensures.step_answer t k A);
    }

pub returns-in-Err : goal.returns-in-Err
returns-in-Err c =
    let a = c.args in
    record {
      little = tt;
      stepped_as = λ t k A. stops a.p c.step-moved.result t k c.in-Err.field-0 c.in-Err.is (c.step-moved.ensures.step_answer t k A);
    }
