-- What single promises, by what check and find_wide answer: refused, or written as put_file does (`put`).
use mathlib.Core.Path.{ap, ◌∙◌}
use Rattle.std.specs.Prelude.{Err}
use Rattle.std.proofs.lemmas.Result.{err_from_is_err_and}
use Rattle.task.specs.Answers.{as_sizes}
use Rattle.task.proofs.Answered.{Limited, answered}
use Rattle.task.specs.File.{task_of}
use Rattle.single_effects.proofs.Answering.{turned_down, allowed, too_wide, narrow, put}
use Rattle.single_effects.proofs.single.Goals as goal
use Rattle.single_effects.proofs.single.Goals.{In_ok-z}

parts : (c : In_ok-z) → Limited c.args.file.now (as_sizes c.in_ok-z.z)
parts c =
    answered c.args.file.now c.check.result c.check.ensures c.in_ok-z.z c.in_ok-z.was

pub returns-in_err-z : goal.returns-in_err-z
returns-in_err-z c =
    let a = c.args in
    let r = err_from_is_err_and c.from_residual.result c.from_residual.ensures.1 in
    let p = turned_down a.file.now a.out.now c.check.result c.check.ensures c.from_residual.result c.in_err-z.field-0.0 (r.1 ∙ ap Err r.2) c.in_err-z.was in
    record { result_value = p.0; out_after = p.1.0; by_index = p.1.1 }

pub rows_of-rows-requires : goal.rows_of-rows-requires
rows_of-rows-requires c = let h = parts (goal.at.rows_of-rows-requires c).In_ok-z in (h.few_rows, h.exact)

pub find_wide-requires : goal.find_wide-requires
find_wide-requires c = c.rows_of-rows.result.fit.few

pub returns-in_err-last : goal.returns-in_err-last
returns-in_err-last c =
    let a = c.args in
    let r = err_from_is_err_and c.from_residual-in_err-last.result c.from_residual-in_err-last.ensures.1 in
    let p = too_wide a.file.now a.out.now c.check.result c.check.ensures c.in_ok-z.z c.in_ok-z.was
    c.find_wide.result (rw c.rows_of-rows.ensures.marks at c.find_wide.ensures.by_index) c.from_residual-in_err-last.result c.in_err-last.field-0.0 (r.1 ∙ ap Err r.2) c.in_err-last.was
    c.in_err-last.ensures.for_choices in
    record { result_value = p.0; out_after = p.1.0; by_index = p.1.1 }

pub put_file-requires : goal.put_file-requires
put_file-requires c =
    let a = c.args in
    let z = c.in_ok-z.z in
    let q = c.in_ok-z.was in
    let e = c.check.ensures in
    record {
      rows = (c.in_ok-last.ensures.last_in_bounds.0, c.in_ok-last.ensures.last_in_bounds.1);
      sizes = allowed a.file.now a.out.now c.check.result e z q;
      narrow = (task_of a.file.now, rw (c.rows_of-rows.ensures.marks, c.rows_of-rows.ensures.values) (narrow a.file.now a.out.now c.check.result e z q c.find_wide.result (rw c.rows_of-rows.ensures.marks at c.find_wide.ensures.by_index) c.in_ok-last.last c.in_ok-last.was));
    }

pub returns : goal.returns
returns c =
    let a = c.args in
    let p = put a.file.now a.out.now c.check.result c.check.ensures c.in_ok-z.z c.in_ok-z.was
    c.find_wide.result (rw c.rows_of-rows.ensures.marks at c.find_wide.ensures.by_index) c.in_ok-last.last c.in_ok-last.was c.put_file.result c.put_file.new.out
    (rw (c.rows_of-rows.ensures.marks, c.rows_of-rows.ensures.values) at c.put_file.ensures) in
    record { result_value = p.0; out_after = p.1.0; by_index = p.1.1 }
