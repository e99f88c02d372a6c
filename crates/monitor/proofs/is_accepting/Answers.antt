-- Kind by kind.
use Rattle.monitor.proofs.is_accepting.Goals as goal

pub returns-in-AtMostOnce : goal.returns-in-AtMostOnce
returns-in-AtMostOnce c = rw c.in-AtMostOnce.is
