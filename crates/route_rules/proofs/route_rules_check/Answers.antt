-- The words are put_checked's of what check answers.
use mathlib.Core.Path.{ap, ◌∙◌}
use Rattle.words.specs.Numbers.{of_check}
use Rattle.words.proofs.Told.{check_told}
use Rattle.route_rules.proofs.route_rules_check.Goals as goal

pub returns : goal.returns
returns c = c.put_checked.ensures ∙ check_told c.check.result ∙ ap of_check c.check.ensures
