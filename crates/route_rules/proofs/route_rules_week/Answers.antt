-- The words are put_week's of what week answers.
use mathlib.Core.Path.{ap, ◌∙◌}
use Rattle.figures.proofs.Promised.{week_promised}
use Rattle.words.specs.Numbers.{of_week}
use Rattle.words.proofs.Told.{week_told}
use Rattle.route_rules.proofs.route_rules_week.Goals as goal

pub returns : goal.returns
returns c =
    let a = c.args in
    record {
      answer_after = c.put_week.ensures ∙ week_told c.week.result ∙ ap of_week c.week.ensures.result_value;
      promised = week_promised a.file.now a.plans.now;
    }
