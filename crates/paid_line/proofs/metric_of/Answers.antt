-- Walk's verdict decides, as metric_in says of it; where walk refuses there is no metric.
use Rattle.paid_line.specs.Paid.{metric_of}
use Rattle.paid_line.proofs.metric_of.Goals as goal

pub returns-in-Ok : goal.returns-in-Ok
unfolding metric_of
returns-in-Ok c = rw (← c.walk.ensures, c.in-Ok.is) c.metric_in.ensures

pub returns-in-Err : goal.returns-in-Err
unfolding metric_of
returns-in-Err c = rw (← c.walk.ensures, c.in-Err.is)
