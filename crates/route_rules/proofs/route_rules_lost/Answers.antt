-- The words are put_losses' of what lost answers, and the claim is lost's.
use mathlib.Core.Path.{ap, ◌∙◌}
use Rattle.words.specs.Numbers.{of_losses}
use Rattle.words.proofs.Told.{losses_told}
use Rattle.route_rules.proofs.route_rules_lost.Goals as goal

pub returns : goal.returns
returns c =
    let l = c.lost in
    record {
      answer_after = c.put_losses.ensures ∙ losses_told l.result ∙ ap of_losses l.ensures.result_value;
      claimed = λ v e. l.ensures.claimed v (l.ensures.result_value ∙ e);
    }
