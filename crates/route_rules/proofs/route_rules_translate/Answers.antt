-- Words, area and faithfulness are translate's; what the planner pays is what walk and settle say: written_paid of paid.
use mathlib.Core.Path.{ap, ◌∙◌}
use lib.ListN.{length}
use Rattle.words.specs.Numbers.{of_outcome}
use Rattle.words.proofs.Told.{outcome_told}
use Rattle.paid.proofs.CostIsMetric.{written_paid}
use Rattle.route_rules.proofs.route_rules_translate.Goals as goal

pub returns : goal.returns
returns c =
    let t = c.translate in
    let a = c.args in record {
      answer_after = c.put_outcome.ensures ∙ outcome_told t.result ∙ ap of_outcome t.ensures.result_value;
      out_after = t.ensures.out_after;
      by_index = λ n e. t.ensures.by_index n (t.ensures.result_value ∙ e);
      by_index_2 = λ n e. written_paid a.file.now _ (length a.out.now) n e (t.ensures.by_index n (t.ensures.result_value ∙ e));
    }
