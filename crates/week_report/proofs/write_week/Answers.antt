-- The three cases of a week's answer, by `Answering`.
use mathlib.Core.Path.{refl, sym, ap, ◌∙◌}
use Rattle.std.specs.Prelude.{Ok, Err}
use Rattle.std.proofs.lemmas.Result.{err_from_is_err_and}
use Rattle.outcome.specs.Answers.{answer}
use Rattle.figures.specs.Plans.{count}
use Rattle.figures.specs.Figures.{none_solves}
use Rattle.weekly.specs.Answers.{reckoned_as}
use Rattle.week_report.proofs.Answering.{text_written, none_written}
use Rattle.week_report.proofs.write_week.Goals as goal

pub returns-in_err-figures : goal.returns-in_err-figures
returns-in_err-figures c =
    let a = c.args in
    let r = err_from_is_err_and c.from_residual.result c.from_residual.ensures.1 in
    let parts = none_written a.file.now a.plans.now (count a.plans.now) refl a.out.now _ _ (sym (ap reckoned_as c.in_err-figures.was) ∙ c.week.ensures.result_value) in
    record { result_value = ap answer (r.1 ∙ ap Err r.2) ∙ parts.0; out_after = parts.1 }

pub returns-in-None : goal.returns-in-None
returns-in-None c =
    let a = c.args in
    let parts = text_written a.file.now a.plans.now c.count-n.result c.count-n.ensures.0 a.out.now none_solves
    (sym (ap reckoned_as (c.in_ok-figures.was ∙ ap Ok c.in-None.is)) ∙ c.week.ensures.result_value) c.put_counts.result c.put_counts.new.out c.put_counts.ensures.wrote in
    record { result_value = parts.0; out_after = parts.1 }

pub returns-in-Some : goal.returns-in-Some
returns-in-Some c =
    let a = c.args in
    let parts = text_written a.file.now a.plans.now c.count-n.result c.count-n.ensures.0 a.out.now _
    (sym (ap reckoned_as (c.in_ok-figures.was ∙ ap Ok c.in-Some.is)) ∙ c.week.ensures.result_value) c.put_figures.result c.put_figures.new.out c.put_figures.ensures in
    record { result_value = parts.0; out_after = parts.1 }
