-- What spell promises, by what check answers: refused, or written as put_file does (`put`).
use mathlib.Core.Path.{ap, ◌∙◌}
use Rattle.std.specs.Prelude.{Err}
use Rattle.std.proofs.lemmas.Result.{err_from_is_err_and}
use native.Mathlib.Omega.{arith}
use lib.ListN.{length-take, length-drop}
use Rattle.task.specs.Answers.{as_sizes}
use Rattle.task.proofs.Answered.{Limited, answered}
use Rattle.spelling.proofs.Answering.{turned_down, allowed, fewer, put}
use Rattle.spelling.proofs.spell.Goals as goal
use Rattle.spelling.proofs.spell.Goals.{In_ok-z}

parts : (c : In_ok-z) → Limited c.args.file.now (as_sizes c.in_ok-z.z)
parts c =
    answered c.args.file.now c.check.result c.check.ensures c.in_ok-z.z c.in_ok-z.was

pub returns-in_err-z : goal.returns-in_err-z
returns-in_err-z c =
    let a = c.args in
    let r = err_from_is_err_and c.from_residual.result c.from_residual.ensures.1 in
    let p = turned_down a.file.now a.out.now c.check.result c.check.ensures c.from_residual.result c.in_err-z.field-0.0 (r.1 ∙ ap Err r.2) c.in_err-z.was in
    record { result_value = p.0; out_after = p.1 }

pub rows_of-requires : goal.rows_of-requires
rows_of-requires c = let h = parts (goal.at.rows_of-requires c).In_ok-z in (h.few_rows, h.exact)

pub put_file-requires : goal.put_file-requires
put_file-requires c =
    let a = c.args in
    let rows = c.rows_of.ensures in
    let h = parts (goal.at.put_file-requires c).In_ok-z in (
      rw (rows.marks, rows.values) (record {
        rows = rw (rows.marks, rows.values) at c.rows_of.result.fit;
        fewer = simp (length-take, length-drop) (omega (arith, fewer a.file.now a.out.now c.check.result c.check.ensures c.in_ok-z.z c.in_ok-z.was));
      }),
      allowed a.file.now a.out.now c.check.result c.check.ensures c.in_ok-z.z c.in_ok-z.was,
    )

pub returns : goal.returns
returns c =
    let a = c.args in
    let p = put a.file.now a.out.now c.check.result c.check.ensures c.in_ok-z.z c.in_ok-z.was c.put_file.result c.put_file.new.out
    (rw (c.rows_of.ensures.marks, c.rows_of.ensures.values) at c.put_file.ensures) in
    record { result_value = p.0; out_after = p.1 }
