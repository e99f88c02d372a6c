-- By what measure answers; the claim by `Losing`.
use mathlib.Core.Path.{sym, ap, ◌∙◌}
use Rattle.std.specs.Prelude.{Err}
use Rattle.std.proofs.lemmas.Result.{err_from_is_err_and}
use Rattle.task.specs.Answers.{number_of}
use Rattle.translation.specs.Measured.{measured_as}
use Rattle.lost.specs.Answers.{losses_as}
use Rattle.lost.proofs.Losing.{turned_down, claimed}
use Rattle.lost.proofs.lost.Goals as goal

pub returns-in_err-z : goal.returns-in_err-z
returns-in_err-z c =
    let a = c.args in
    let g = c.in_err-z.field-0.0 in
    let r = err_from_is_err_and c.from_residual.result c.from_residual.ensures.1 in
    let e = ap losses_as (r.1 ∙ ap Err r.2)
    ∙ turned_down a.file.now a.steps.now (number_of g.cause) g.place (sym (ap measured_as c.in_err-z.was) ∙ c.measure.ensures) in
    record {
      result_value = e;
      claimed = λ v k. claimed a.file.now a.steps.now v (sym e ∙ k);
    }

pub lost_within-requires : goal.lost_within-requires
lost_within-requires c = sym c.measure.ensures ∙ ap measured_as c.in_ok-z.was

pub returns : goal.returns
returns c =
    let a = c.args in
    let e = c.lost_within.ensures in
    record {
      result_value = e;
      claimed = λ v g. claimed a.file.now a.steps.now v (sym e ∙ g);
    }
