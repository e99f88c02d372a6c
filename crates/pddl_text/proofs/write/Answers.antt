-- What check answers says which way is taken: a refusal by `turned_down`, preferences by `has_preferences`, else the texts by `texts_put`.
use mathlib.Core.Path.{ap, ◌∙◌}
use Rattle.std.specs.Prelude.{Err}
use Rattle.std.proofs.lemmas.Result.{err_from_is_err_and}
use Rattle.pddl_text.specs.Answers.{answer}
use Rattle.task.specs.Answers.{as_sizes}
use Rattle.task.proofs.Answered.{Limited, answered}
use Rattle.pddl_text.proofs.Answering.{turned_down, spelled, has_preferences, texts_put}
use Rattle.pddl_text.proofs.write.Goals as goal
use Rattle.pddl_text.proofs.write.Goals.{In_ok-z}

sized : (c : In_ok-z) → Limited c.args.file.now (as_sizes c.in_ok-z.z)
sized c =
    answered c.args.file.now c.check.result c.check.ensures c.in_ok-z.z c.in_ok-z.was

pub returns-in_err-z : goal.returns-in_err-z
returns-in_err-z c =
    let a = c.args in
    let r = err_from_is_err_and c.from_residual.result c.from_residual.ensures.1 in
    let parts = turned_down a.file.now a.domain.now a.problem.now c.in_err-z.was c.check.ensures in
    record { result_value = ap answer (r.1 ∙ ap Err r.2) ∙ parts.0; domain_after = parts.1.0; problem_after = parts.1.1 }

pub returns-then-z-ne0 : goal.returns-then-z-ne0
returns-then-z-ne0 c =
    let a = c.args in
    let r = has_preferences a.file.now c.in_ok-z.was c.check.ensures a.domain.now a.problem.now c.if-z-ne0.true in
    record { result_value = ap (λ f. answer (Err f)) c.at.ensures ∙ r.0; domain_after = r.1.0; problem_after = r.1.1 }

pub rows_of-requires : goal.rows_of-requires
rows_of-requires c = let h = sized (goal.at.rows_of-requires c).In_ok-z in (h.few_rows, h.exact)

pub put_texts-requires : goal.put_texts-requires
put_texts-requires c =
    let a = c.args in
    let h = sized (goal.at.put_texts-requires c).In_ok-z in
    (h.few_facts, rw (c.rows_of.ensures.marks, c.rows_of.ensures.values) (spelled a.file.now c.in_ok-z.was c.check.ensures))

pub returns : goal.returns
returns c =
    let a = c.args in
    let put = rw (c.rows_of.ensures.marks, c.rows_of.ensures.values) at c.put_texts.ensures in
    let parts = texts_put a.file.now c.in_ok-z.was c.check.ensures a.domain.now a.problem.now c.if-z-ne0.false c.put_texts.result
    put.of_task put.of_task_2 put.of_task_3 in
    record { result_value = parts.0; domain_after = parts.1.0; problem_after = parts.1.1 }
