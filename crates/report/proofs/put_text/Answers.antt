-- A refused file has no text (on_refused of Answering); of an accepted one its rows give the task's text (on_accepted).
use mathlib.Core.Path.{◌≡◌, sym, ap, ◌∙◌}
use Rattle.task.specs.Check.{check, accepted}
use Rattle.task.specs.Answers.{answer as checked, as_sizes}
use Rattle.task.proofs.Answered.{has_rows}
use Rattle.text.proofs.Writing.{from_start}
use Rattle.report.proofs.Answering.{on_accepted, on_refused}
use Rattle.report.proofs.put_text.Goals as goal
use Rattle.report.proofs.put_text.Goals.{In-Ok}

-- where the file was accepted
was_accepted : (c : In-Ok) → check c.args.file.now ≡ accepted (as_sizes c.in-Ok.z)
was_accepted c = sym c.check.ensures ∙ ap checked c.in-Ok.is

pub returns-in_default : goal.returns-in_default
returns-in_default c =
    let a = c.args in
    on_refused a.file.now a.plan.now _ _ (sym c.check.ensures ∙ ap checked c.in_default.is) a.out.now

pub rows_of-requires : goal.rows_of-requires
rows_of-requires c = has_rows c.args.file.now (as_sizes c.in-Ok.z) (was_accepted (goal.at.rows_of-requires c).In-Ok)

pub returns : goal.returns
returns c =
    let a = c.args in
    on_accepted a.file.now a.plan.now _ c.requires (as_sizes c.in-Ok.z) (was_accepted (goal.at.returns c).In-Ok) a.out.now c.put_verdict.result
    c.put_verdict.new.out (from_start (rw (c.rows_of.ensures.marks, c.rows_of.ensures.values) at c.put_verdict.ensures))
