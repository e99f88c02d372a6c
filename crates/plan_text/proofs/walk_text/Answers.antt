-- What read leaves at the front is the text's plan, so walk answers for the text; the text's refusal comes after check's: Answering.
use mathlib.Core.Path.{sym, ap, ◌∙◌}
use Rattle.std.specs.Prelude.{Err}
use Rattle.std.proofs.lemmas.Result.{err_from_is_err_and}
use Rattle.task.specs.Answers.{number_of}
use Rattle.outcome.specs.Answers.{answer}
use Rattle.plan.specs.Answers.{walked_as}
use Rattle.plan.specs.Walked.{walked}
use Rattle.plan_text.proofs.Answering.{at_front, text_walked_lem, file_refused, text_alone}
use Rattle.plan_text.proofs.walk_text.Goals as goal

pub returns-in-Ok : goal.returns-in-Ok
returns-in-Ok c =
    let a = c.args in
    let e = sym c.read.ensures.result_value ∙ ap answer c.in-Ok.is in
    c.walk.ensures
    ∙ ap (walked a.file.now) (c.front.ensures ∙ at_front a.text.now _ c.read.new.out 2048 c.in-Ok.n e c.read.ensures.out_after)
    ∙ text_walked_lem a.file.now a.text.now c.in-Ok.n e

pub returns-in_err-check-in-Err : goal.returns-in_err-check-in-Err
returns-in_err-check-in-Err c =
    let a = c.args in
    let f = c.in-Err.f in
    let r = err_from_is_err_and c.from_residual.result c.from_residual.ensures.1 in
    ap walked_as (r.1 ∙ ap Err r.2)
    ∙ file_refused a.file.now a.text.now (number_of f.cause) f.place (sym c.read.ensures.result_value ∙ ap answer c.in-Err.is) c.check.ensures c.in_err-check-in-Err.was

pub returns-in_ok-check-in-Err : goal.returns-in_ok-check-in-Err
returns-in_ok-check-in-Err c =
    let a = c.args in
    let f = c.in-Err.f in
    text_alone a.file.now a.text.now (number_of f.cause) f.place (sym c.read.ensures.result_value ∙ ap answer c.in-Err.is) c.check.ensures c.in_ok-check-in-Err.was
