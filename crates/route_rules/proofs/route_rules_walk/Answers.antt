-- The words are put_walked's of what walk answers.
use mathlib.Core.Path.{ap, ◌∙◌}
use Rattle.words.specs.Numbers.{of_walk}
use Rattle.words.proofs.Told.{walk_told}
use Rattle.route_rules.proofs.route_rules_walk.Goals as goal

pub returns : goal.returns
returns c = c.put_walked.ensures ∙ walk_told c.walk.result ∙ ap of_walk c.walk.ensures
