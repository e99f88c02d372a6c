-- Refused by 8 or 9 the area stays; else it holds the sizes and then the rows, which is the file (`Fits`).
use mathlib.Core.Path.{ap, ◌∙◌}
use Rattle.std.specs.Prelude.{Err}
use Rattle.std.proofs.lemmas.Result.{err_from_is_err_and}
use Rattle.task.specs.TaskRows.{task_rows}
use Rattle.task.specs.declared.Refusal.{Refusal}
use Rattle.outcome.specs.Answers.{answer}
use Rattle.singling.specs.Singled.{singled}
use Rattle.single_effects.proofs.Fits.{too_many, no_room, put}
use borrow.Author.Rules.{rules}
use Rattle.single_effects.proofs.whole.put_file.Goals as goal

pub returns-then-n-gt-MAX_ROWS : goal.returns-then-n-gt-MAX_ROWS
returns-then-n-gt-MAX_ROWS c = λ t N.
    let a = c.args in
    too_many a.z.facts a.z.actions a.z.preferences (task_rows (singled t)) a.out.now c.count_rows-n.result (c.count_rows-n.ensures t N)
    c.at.result (ap (λ (r : Refusal). answer (Err r)) c.at.ensures) (search rules)

pub returns-in_err-length : goal.returns-in_err-length
returns-in_err-length c = λ t N.
    let a = c.args in
    let r = err_from_is_err_and c.from_residual.result c.from_residual.ensures.1 in
    no_room a.z.facts a.z.actions a.z.preferences (task_rows (singled t)) a.out.now c.count_rows-n.result (c.count_rows-n.ensures t N) (search rules)
    c.from_residual.result c.in_err-length.field-0.0 (r.1 ∙ ap Err r.2) c.in_err-length.ensures

pub put_task-requires : goal.put_task-requires
put_task-requires c = record {
  room = (record { few = search rules; long = search rules }, c.requires.rows.0, c.requires.rows.1);
  narrow = c.requires.narrow;
}

pub returns : goal.returns
returns c = λ t N.
    let a = c.args in
    put a.z.facts a.z.actions a.z.preferences (task_rows (singled t)) a.out.now c.count_rows-n.result (c.count_rows-n.ensures t N) (search rules)
    c.put_sizes.new.out c.put_task.new.out c.put_task.result (search rules) c.put_sizes.ensures (c.put_task.ensures t N)
    c.in_ok-length.length c.in_ok-length.ensures
