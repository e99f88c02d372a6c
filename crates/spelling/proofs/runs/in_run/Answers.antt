-- The marks from a to b.
use mathlib.Core.Path.{refl}
use Rattle.spelling.proofs.runs.in_run.Goals as goal

pub returns : goal.returns
returns c = refl
