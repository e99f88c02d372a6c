-- A mark opens a preference where it opens a soft or a hard one: the contracts of opens_soft and opens_hard.
use mathlib.Core.Path.{ap₂}
use mathlib.Core.Bool.{◌||◌}
use Rattle.task.proofs.is_preference.Goals as goal

pub returns : goal.returns
returns c = ap₂ ◌||◌ c.opens_soft.ensures c.opens_hard.ensures
