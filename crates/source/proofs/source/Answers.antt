-- A task that can't be translated is refused as translating it is; else the text decides, and the whole way of it is returned: Returning.
use Rattle.std.specs.Prelude.{Err}
use Rattle.std.proofs.lemmas.Result.{err_from_is_err_and}
use mathlib.Core.Path.{sym, ap, ◌∙◌}
use mathlib.Core.Bool.{true≢false}
use lib.ListN.{length}
use Rattle.task.specs.Answers.{as_sizes, number_of}
use Rattle.outcome.specs.Outcome.{area_after}
use Rattle.outcome.specs.Answers.{answer}
use Rattle.outcome.proofs.Outcomes.{turned_down}
use Rattle.translation.specs.Measured.{measured_as}
use Rattle.source.specs.Source.{outcome, part_in}
use Rattle.source.proofs.Returning.{turned_away, few_actions, on_text, part_is, returned}
use Rattle.source.proofs.source.Goals as goal

pub put_text-requires : goal.put_text-requires
put_text-requires c =
    let a = c.args in
    few_actions a.file.now a.text.now (as_sizes c.in_ok-z.z) (sym c.measure.ensures ∙ ap measured_as c.in_ok-z.was)

pub returns-in_err-z : goal.returns-in_err-z
returns-in_err-z c =
    let a = c.args in
    let f = c.in_err-z.field-0.0 in
    let r = err_from_is_err_and c.from_residual.result c.from_residual.ensures.1 in
    let b = a.file.now in
    let t = a.text.now in
    let old = a.out.now in
    let says = ap answer (r.1 ∙ ap Err r.2) in
    let away = turned_away b t (length old) (number_of f.cause) f.place (sym c.measure.ensures ∙ ap measured_as c.in_err-z.was) in
    let both = turned_down (part_in b t) old (outcome b t (length old)) (answer c.from_residual.result) (number_of f.cause) f.place says away in
    record {
      result_value = both.0;
      out_after = both.1;
      by_index = λ n e. absurd (true≢false (cc (says, e)));
    }

pub returns : goal.returns
returns c =
    let a = c.args in
    let z = as_sizes c.in_ok-z.z in
    let can = sym c.measure.ensures ∙ ap measured_as c.in_ok-z.was in
    let b = a.file.now in
    let t = a.text.now in
    let old = a.out.now in
    let answered = on_text b t z can (length old) in record {
      result_value = c.put_text.ensures.result_value ∙ answered;
      out_after = c.put_text.ensures.out_after ∙ (λ i. area_after (part_is b t z can i) old (answered i));
      by_index = λ n e. returned b t z can (length old) n (sym c.put_text.ensures.result_value ∙ e) old c.put_text.new.out c.put_text.ensures.out_after;
    }
