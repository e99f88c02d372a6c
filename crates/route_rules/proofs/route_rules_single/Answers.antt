-- Words, area and meaning are single's; what a planner pays for a translation stays: still_paid of paid.
use mathlib.Core.Path.{ap, ◌∙◌}
use Rattle.words.specs.Numbers.{of_outcome}
use Rattle.words.proofs.Told.{outcome_told}
use Rattle.paid.proofs.CostIsMetric.{still_paid}
use Rattle.route_rules.proofs.route_rules_single.Goals as goal

pub returns : goal.returns
returns c =
    let t = c.single in
    let a = c.args in record {
      answer_after = c.put_outcome.ensures ∙ outcome_told t.result ∙ ap of_outcome t.ensures.result_value;
      out_after = t.ensures.out_after;
      by_index = λ n e. t.ensures.by_index n (t.ensures.result_value ∙ e);
      by_index_2 = λ n e. still_paid a.file.now _ n (t.ensures.by_index n (t.ensures.result_value ∙ e));
    }
