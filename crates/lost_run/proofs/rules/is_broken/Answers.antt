-- Kind by kind.
use Rattle.lost_run.proofs.rules.is_broken.Goals as goal

pub returns-in-AtMostOnce : goal.returns-in-AtMostOnce
returns-in-AtMostOnce c = rw c.in-AtMostOnce.is
