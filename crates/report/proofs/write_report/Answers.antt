-- Where walk refuses, the outcome is that refusal and the area stays (not-walked of Answering); else it is write_verdict's.
use mathlib.Core.Path.{sym, ap, ◌∙◌}
use Rattle.std.specs.Prelude.{Err}
use Rattle.std.proofs.lemmas.Result.{err_from_is_err_and}
use lib.ListN.{length}
use Rattle.task.specs.Answers.{number_of}
use Rattle.plan.specs.Answers.{walked_as}
use Rattle.outcome.specs.Answers.{answer}
use Rattle.outcome.proofs.Outcomes.{turned_down}
use Rattle.report.specs.Report.{report_on, report_outcome}
use Rattle.report.proofs.Answering.{not-walked}
use Rattle.report.proofs.write_report.Goals as goal

pub write_verdict-requires : goal.write_verdict-requires
write_verdict-requires c =
    (_, sym (ap walked_as c.in_ok-w.was) ∙ c.walk.ensures)

pub returns-in_err-w : goal.returns-in_err-w
returns-in_err-w c =
    let a = c.args in
    let b = a.file.now in
    let p = a.plan.now in
    let f = c.in_err-w.field-0.0 in
    let r = err_from_is_err_and c.from_residual.result c.from_residual.ensures.1 in
    let parts = turned_down (report_on b p) a.out.now (report_outcome b p (length a.out.now)) (answer c.from_residual.result) (number_of f.cause) f.place
    (ap answer (r.1 ∙ ap Err r.2)) (not-walked b p (length a.out.now) (number_of f.cause) f.place (sym (ap walked_as c.in_err-w.was) ∙ c.walk.ensures)) in
    record { result_value = parts.0; out_after = parts.1 }
