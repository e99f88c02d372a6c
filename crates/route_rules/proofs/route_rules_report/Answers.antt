-- The words are put_outcome's of what write_report answers, and the area is as it leaves it.
use mathlib.Core.Path.{ap, ◌∙◌}
use Rattle.words.specs.Numbers.{of_outcome}
use Rattle.words.proofs.Told.{outcome_told}
use Rattle.route_rules.proofs.route_rules_report.Goals as goal

pub returns : goal.returns
returns c =
    let t = c.write_report in
    record {
      answer_after = c.put_outcome.ensures ∙ outcome_told t.result ∙ ap of_outcome t.ensures.result_value;
      out_after = t.ensures.out_after;
    }
