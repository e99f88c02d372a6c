-- By the line and the steps that fill finds, each refusal and the plan that it writes is readOutcome's: laws of Answering.
use mathlib.Core.Path.{◌≡◌, sym, ap, ◌∙◌}
use Rattle.std.specs.Prelude.{Err}
use Rattle.std.proofs.lemmas.Result.{err_from_is_err_and}
use Rattle.task.specs.Answers.{number_of}
use Prim.Native.Nat.{◌≤◌, ◌<◌}
use native.Mathlib.Omega.{arith}
use lib.ListN.{length, take}
use borrow.Author.Tests.{not-true, not-false}
use Rattle.text.specs.Area.{written as put}
use Rattle.plan_text.specs.Outcomes.{read_outcome, steps_in}
use Rattle.outcome.specs.Answers.{answer}
use Rattle.outcome.proofs.Outcomes.{turned_down, room_found}
use Rattle.plan_text.proofs.Answering.{put_whole, front_put, too_many, few_enough, faulty_line, by_size, steps_found, line_below}
use borrow.Author.Rules.{rules}
use Rattle.plan_text.proofs.read_through.Goals as goal
use Rattle.plan_text.proofs.read_through.Goals.{After-fitted}

pub overflow_cast-s : goal.overflow_cast-s
overflow_cast-s c =
    let a = c.args in
    let h : c.fill-s.result.line < 65536 = line_below a.text.now c.fill-s.result (search rules) c.fill-s.ensures.mode_in_bounds.0
    (sym c.between_lines.ensures ∙ not-true c.between_lines.result c.if-not-between_lines.true-raw) in
    search rules

pub returns-then-not-between_lines : goal.returns-then-not-between_lines
returns-then-not-between_lines c =
    let a = c.args in
    let parts = turned_down (steps_in a.text.now) a.out.now (read_outcome a.text.now (length a.out.now)) (answer (Err c.at.result)) 12 c.fill-s.result.line
    (ap (λ f. answer (Err f)) c.at.ensures) (faulty_line a.text.now (length a.out.now) (search rules) c.fill-s.result c.fill-s.ensures.result_value
    (sym c.between_lines.ensures ∙ not-true c.between_lines.result c.if-not-between_lines.true-raw)) in
    record { result_value = parts.0; out_after = parts.1 }

pub returns-then-s-gt-MAX_STEPS : goal.returns-then-s-gt-MAX_STEPS
returns-then-s-gt-MAX_STEPS c =
    let a = c.args in
    let n = c.fill-s.result.steps in
    let parts = turned_down (steps_in a.text.now) a.out.now (read_outcome a.text.now (length a.out.now)) (answer (Err c.at-then-s-gt-MAX_STEPS.result)) 10 0
    (ap (λ f. answer (Err f)) c.at-then-s-gt-MAX_STEPS.ensures) (by_size a.text.now (length a.out.now) (search rules) c.fill-s.result c.fill-s.ensures.result_value
    (sym c.between_lines.ensures ∙ not-false c.between_lines.result c.if-not-between_lines.false-raw) ∙ too_many n n (length a.out.now) (search rules)) in
    record { result_value = parts.0; out_after = parts.1 }

-- a plan that is not too long is due as `fitted` says
due : (c : After-fitted) → let a = c.args in read_outcome a.text.now (length a.out.now) ≡ answer c.fitted.result
due c =
    let a = c.args in
    let n = c.fill-s.result.steps in
    by_size a.text.now (length a.out.now) (search rules) c.fill-s.result c.fill-s.ensures.result_value
    (sym c.between_lines.ensures ∙ not-false c.between_lines.result c.if-not-between_lines.false-raw)
    ∙ few_enough n n (length a.out.now) (search rules) ∙ sym c.fitted.ensures

pub returns-in_err-n : goal.returns-in_err-n
returns-in_err-n c =
    let a = c.args in
    let f = c.in_err-n.field-0.0 in
    let r = err_from_is_err_and c.from_residual.result c.from_residual.ensures.1 in
    let parts = turned_down (steps_in a.text.now) a.out.now (read_outcome a.text.now (length a.out.now)) (answer c.from_residual.result) (number_of f.cause) f.place
    (ap answer (r.1 ∙ ap Err r.2)) (due (goal.at.returns-in_err-n c).After-fitted ∙ ap answer c.in_err-n.was) in
    record { result_value = parts.0; out_after = parts.1 }

pub returns : goal.returns
returns c =
    let a = c.args in
    let n = c.in_ok-n.n in
    let opening = sym c.between_lines.ensures ∙ not-false c.between_lines.result c.if-not-between_lines.false-raw in
    let s = steps_found a.text.now (length a.out.now) (search rules) c.fill-s.result c.fill-s.ensures.result_value opening in
    let fits = room_found c.fill-s.result.steps (length a.out.now) c.fitted.ensures c.in_ok-n.was in
    let size : length (steps_in a.text.now) ≡ n = s.1 ∙ sym fits.0 in
    let few : n ≤ 2048 = omega (arith, c.if-s-gt-MAX_STEPS.false, fits.0) in
    let room : n ≤ length a.own.now = c.requires.1 n few (omega (arith, c.fill-s.ensures.mode_in_bounds.1, fits.0)) in
    let read = c.front.ensures ∙ ap (take n) (c.fill-s.ensures.out_after ∙ ap (λ l. put l 0 a.own.now) s.0) ∙ front_put (steps_in a.text.now) a.own.now n size room in
    let parts = put_whole (steps_in a.text.now) a.out.now c.put_bytes.new.out n (read_outcome a.text.now (length a.out.now)) size (omega (arith, fits))
    (c.put_bytes.ensures.area ∙ ap (λ l. put l 0 a.out.now) read)
    (due (goal.at.returns c).After-fitted ∙ ap answer c.in_ok-n.was) in
    record { result_value = parts.0; out_after = parts.1 }
