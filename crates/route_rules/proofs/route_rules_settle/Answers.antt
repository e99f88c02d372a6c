-- The words are put_settled's of what settle answers.
use mathlib.Core.Path.{ap, ◌∙◌}
use Rattle.words.specs.Numbers.{of_settle}
use Rattle.words.proofs.Told.{settle_told}
use Rattle.route_rules.proofs.route_rules_settle.Goals as goal

pub returns : goal.returns
returns c = c.put_settled.ensures ∙ settle_told c.settle.result ∙ ap of_settle c.settle.ensures
