-- The very test of the definition.
use mathlib.Core.Path.{refl}
use Rattle.weekly.proofs.plans.stands.Goals as goal

pub returns : goal.returns
returns c = refl
