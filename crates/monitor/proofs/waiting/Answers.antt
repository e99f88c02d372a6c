-- The parts of a monitor of always-within, each by its function.
use Rattle.monitor.proofs.waiting.Goals as goal

pub returns : goal.returns
returns c = (λ last. rw (c.is_due-due.ensures, c.waited-age.ensures.0), c.waited-age.ensures.1)
