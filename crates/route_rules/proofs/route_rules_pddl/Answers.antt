-- The words are put_texts' of what pddl_text::write answers, and the two areas are as it leaves them.
use mathlib.Core.Path.{ap, ◌∙◌}
use Rattle.words.specs.Numbers.{of_texts}
use Rattle.words.proofs.Told.{texts_told}
use Rattle.route_rules.proofs.route_rules_pddl.Goals as goal

pub returns : goal.returns
returns c =
    let w = c.write in
    record { answer_after = c.put_texts.ensures ∙ texts_told w.result ∙ ap of_texts w.ensures.result_value; domain_after = w.ensures.domain_after; problem_after = w.ensures.problem_after }
