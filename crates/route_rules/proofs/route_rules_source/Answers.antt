-- The words are put_outcome's of what source answers; the area and the whole way of the text are source's own.
use mathlib.Core.Path.{ap, ◌∙◌}
use Rattle.words.specs.Numbers.{of_outcome}
use Rattle.words.proofs.Told.{outcome_told}
use Rattle.route_rules.proofs.route_rules_source.Goals as goal

pub returns : goal.returns
returns c =
    let t = c.source in
    record {
      answer_after = c.put_outcome.ensures ∙ outcome_told t.result ∙ ap of_outcome t.ensures.result_value;
      out_after = t.ensures.out_after;
      by_index = λ m e. t.ensures.by_index m (t.ensures.result_value ∙ e);
    }
