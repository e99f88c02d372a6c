-- Too many steps, too little room, or the whole text written, counted first or not: each is writeOutcome's, by its law of Answering.
use mathlib.Core.Path.{sym, ap, ◌∙◌}
use Rattle.std.specs.Prelude.{Err}
use Rattle.std.proofs.lemmas.Result.{err_from_is_err_and}
use Rattle.task.specs.Answers.{number_of}
use Prim.Native.Nat.{◌≤◌}
use native.Mathlib.Omega.{arith}
use lib.ListN.{length}
use Rattle.plan_lines.specs.PlanText.{text_of}
use Rattle.outcome.specs.Outcome.{written, fitted}
use Rattle.plan_text.specs.Outcomes.{write_outcome}
use Rattle.outcome.specs.Answers.{answer}
use Rattle.outcome.proofs.Outcomes.{turned_down, room_found}
use Rattle.plan_text.proofs.Answering.{put_whole, too_many, few_enough, roomy}
use borrow.Author.Rules.{rules}
use Rattle.plan_text.proofs.write.Goals as goal

pub returns-then-plan-gt-MAX_STEPS : goal.returns-then-plan-gt-MAX_STEPS
unfolding write_outcome
returns-then-plan-gt-MAX_STEPS c =
    let a = c.args in
    let p = a.plan.now in
    let parts = turned_down (text_of p) a.out.now (write_outcome p (length a.out.now)) (answer (Err c.at.result)) 10 0
    (ap (λ f. answer (Err f)) c.at.ensures) (too_many (length p) (length (text_of p)) (length a.out.now) (search rules)) in
    record { result_value = parts.0; out_after = parts.1 }

pub returns-then-plan-out : goal.returns-then-plan-out
unfolding write_outcome
returns-then-plan-out c =
    let a = c.args in
    let p = a.plan.now in
    let n = c.put_plan.result in
    let put = c.put_plan.ensures.filled in
    let few = c.put_plan.ensures.upper_bound in
    let size = sym put.size in
    let fits : n ≤ length a.out.now = omega (arith, few, c.if-plan-out.true) in
    let parts = put_whole (text_of p) a.out.now c.put_plan.new.out n (write_outcome p (length a.out.now)) size fits put.area
    (roomy (length p) (length (text_of p)) (length a.out.now) (search rules) (omega (arith, fits, size)) ∙ ap written size) in
    record { result_value = parts.0; out_after = parts.1 }

pub returns-in_err-fitted : goal.returns-in_err-fitted
unfolding write_outcome
returns-in_err-fitted c =
    let a = c.args in
    let p = a.plan.now in
    let f = c.in_err-fitted.field-0.0 in
    let r = err_from_is_err_and c.from_residual.result c.from_residual.ensures.1 in
    let due = few_enough (length p) (length (text_of p)) (length a.out.now) (search rules)
    ∙ ap (λ n. fitted n (length a.out.now)) (sym c.put_plan-2.ensures.filled.size) ∙ sym c.fitted.ensures in
    let parts = turned_down (text_of p) a.out.now (write_outcome p (length a.out.now)) (answer c.from_residual.result) (number_of f.cause) f.place
    (ap answer (r.1 ∙ ap Err r.2)) (due ∙ ap answer c.in_err-fitted.was) in
    record { result_value = parts.0; out_after = parts.1 }

pub returns : goal.returns
unfolding write_outcome
returns c =
    let a = c.args in
    let p = a.plan.now in
    let n = c.put_plan-3.result in
    let size = sym c.put_plan-3.ensures.filled.size in
    let fits = room_found c.put_plan-2.result (length a.out.now) c.fitted.ensures c.in_ok-fitted.was in
    let room : n ≤ length a.out.now = omega (arith, fits, c.put_plan-2.ensures.filled.size, c.put_plan-3.ensures.filled.size) in
    let parts = put_whole (text_of p) a.out.now c.put_plan-3.new.out n (write_outcome p (length a.out.now)) size room
    c.put_plan-3.ensures.filled.area
    (roomy (length p) (length (text_of p)) (length a.out.now) (search rules) (omega (arith, room, size)) ∙ ap written size) in
    record { result_value = parts.0; out_after = parts.1 }
