-- The area inside holds the whole text (longest of Longest), which is put down where it fits, and else refused by 9: Answering.
use mathlib.Core.Path.{◌≡◌, sym, ap, ◌∙◌}
use mathlib.Core.List.{List}
use Rattle.std.specs.Prelude.{Err}
use Rattle.std.proofs.lemmas.Result.{err_from_is_err_and}
use Prim.Native.Nat.{ℕ, ◌≤◌}
use native.Mathlib.Omega.{arith}
use lib.ListN.{length, take}
use Rattle.task.specs.Answers.{number_of}
use Rattle.plan.specs.Answers.{as_verdict}
use Rattle.outcome.specs.Outcome.{fitted}
use Rattle.outcome.specs.Answers.{answer}
use Rattle.outcome.proofs.Outcomes.{turned_down, put_down, room_found}
use Rattle.text.specs.Area.{written as put}
use Rattle.text.proofs.Writing.{at_front, written_whole}
use Rattle.report.specs.Report.{report_on, report_outcome}
use Rattle.report.proofs.Answering.{by_length}
use Rattle.report.proofs.Longest.{longest}
use Rattle.report.proofs.write_verdict.Goals as goal
use Rattle.report.proofs.write_verdict.Goals.{After-fitted}

due : (c : After-fitted) → let a = c.args in report_outcome a.file.now a.plan.now (length a.out.now) ≡ answer c.fitted.result
due c =
    let a = c.args in
    by_length a.file.now a.plan.now (as_verdict a.v) c.requires (length a.out.now)
    ∙ ap (λ n. fitted n (length a.out.now)) (sym c.put_text.ensures.size) ∙ sym c.fitted.ensures

pub returns-in_err-n : goal.returns-in_err-n
returns-in_err-n c =
    let b = c.args.file.now in
    let p = c.args.plan.now in
    let out = c.args.out.now in
    let f = c.in_err-n.field-0.0 in
    let r = err_from_is_err_and c.from_residual.result c.from_residual.ensures.1 in
    let parts = turned_down (report_on b p) out (report_outcome b p (length out)) (answer c.from_residual.result) (number_of f.cause) f.place
    (ap answer (r.1 ∙ ap Err r.2)) (due (goal.at.returns-in_err-n c).After-fitted ∙ ap answer c.in_err-n.was) in
    record { result_value = parts.0; out_after = parts.1 }

pub returns : goal.returns
returns c =
    let b = c.args.file.now in
    let p = c.args.plan.now in
    let out = c.args.out.now in
    let n = c.in_ok-n.n in
    let room = room_found c.put_text.result (length out) c.fitted.ensures c.in_ok-n.was in
    let size : n ≡ length (report_on b p) = room.0 ∙ c.put_text.ensures.size in
    let fits : length (report_on b p) ≤ length out = omega (arith, room, size) in
    let whole : take c.put_text.result c.put_text.new.out ≡ report_on b p = at_front _ (report_on b p) c.put_text.result _ c.put_text.ensures (omega (arith, longest b p)) in
    let front : take n c.put_text.new.out ≡ report_on b p = ap (λ (k : ℕ). take k c.put_text.new.out) room.0 ∙ whole in
    let parts = put_down (report_on b p) out c.put_bytes.new.out n (report_outcome b p (length out)) (sym size)
    (c.put_bytes.ensures.area ∙ ap (λ (l : List ℕ). put l 0 out) (c.front.ensures ∙ front) ∙ written_whole (report_on b p) out fits)
    (due (goal.at.returns c).After-fitted ∙ ap answer c.in_ok-n.was) in
    record { result_value = parts.0; out_after = parts.1 }
