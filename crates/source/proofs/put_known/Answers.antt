-- An unknown step, too little room, or the source steps written: each is ofKnown's, by its law of Sourced.
use mathlib.Core.Path.{◌≡◌, sym, ap, ◌∙◌}
use Rattle.std.specs.Prelude.{Ok, Err}
use Rattle.std.proofs.lemmas.Result.{err_from_is_err_and}
use Prim.Native.Nat.{◌≤◌}
use native.Mathlib.Omega.{arith}
use lib.ListN.{length}
use Rattle.task.specs.Answers.{as_sizes, number_of}
use Rattle.outcome.specs.Outcome.{refused, fitted}
use Rattle.outcome.specs.Answers.{answer}
use Rattle.outcome.proofs.Outcomes.{turned_down, room_found}
use Rattle.plan_text.proofs.Answering.{put_whole}
use Rattle.source.specs.Source.{below, of_known}
use Rattle.source.proofs.Sourced.{unknown, by_size}
use Rattle.source.proofs.put_known.Goals as goal
use Rattle.source.proofs.put_known.Goals.{After-fitted}

pub returns-then-known-steps : goal.returns-then-known-steps
returns-then-known-steps c =
    let a = c.args in
    let p = a.steps.now in
    let z = as_sizes a.z in
    let room = length a.out.now in
    let e = c.steps_known-known.ensures in
    let parts = turned_down (below a.z.actions p) a.out.now (of_known z room p) (answer (Err c.at.result)) 11 c.steps_known-known.result
    (ap (λ f. answer (Err f)) c.at.ensures) (unknown z room p (omega (arith, c.if-known-steps.true, e)) ∙ ap (refused 11) (sym e)) in
    record { result_value = parts.0; out_after = parts.1 }

-- a list whose steps are known is due as `fitted` says
due : (c : After-fitted) → let a = c.args in of_known (as_sizes a.z) (length a.out.now) a.steps.now ≡ answer c.fitted.result
due c =
    let a = c.args in
    let room = length a.out.now in
    by_size (as_sizes a.z) room a.steps.now (omega (arith, c.if-known-steps.false, c.steps_known-known.ensures))
    ∙ ap (λ n. fitted n room) (sym c.put_source.ensures.size) ∙ sym c.fitted.ensures

pub returns-in_err-fitted : goal.returns-in_err-fitted
returns-in_err-fitted c =
    let a = c.args in
    let p = a.steps.now in
    let f = c.in_err-fitted.field-0.0 in
    let r = err_from_is_err_and c.from_residual.result c.from_residual.ensures.1 in
    let parts = turned_down (below a.z.actions p) a.out.now (of_known (as_sizes a.z) (length a.out.now) p) (answer c.from_residual.result) (number_of f.cause) f.place
    (ap answer (r.1 ∙ ap Err r.2)) (due (goal.at.returns-in_err-fitted c).After-fitted ∙ ap answer c.in_err-fitted.was) in
    record { result_value = parts.0; out_after = parts.1 }

pub returns : goal.returns
returns c =
    let a = c.args in
    let p = a.steps.now in
    let n = c.put_source-2.result in
    let size = sym c.put_source-2.ensures.size in
    let fits = room_found c.put_source.result (length a.out.now) c.fitted.ensures c.in_ok-fitted.was in
    let same : c.in_ok-fitted.field-0 ≡ n = omega (arith, fits, c.put_source.ensures.size, c.put_source-2.ensures.size) in
    let room : n ≤ length a.out.now = omega (arith, fits, same) in
    let parts = put_whole (below a.z.actions p) a.out.now c.put_source-2.new.out n (of_known (as_sizes a.z) (length a.out.now) p) size room
    c.put_source-2.ensures.area
    (due (goal.at.returns c).After-fitted ∙ ap answer (c.in_ok-fitted.was ∙ ap Ok same)) in
    record { result_value = parts.0; out_after = parts.1 }
