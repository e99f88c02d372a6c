-- What read leaves at the front are the text's steps, so put_known answers for the text; a refusal of the text is passed on: Sourced.
use borrow.Author.Rules.{rules}
use Rattle.std.specs.Prelude.{Err}
use Rattle.std.proofs.lemmas.Result.{err_from_is_err_and}
use mathlib.Core.Path.{sym, ap, ◌∙◌}
use mathlib.Core.List.{List}
use native.Mathlib.Omega.{arith}
use Prim.Native.Nat.{ℕ}
use lib.ListN.{length}
use Rattle.task.specs.Answers.{as_sizes, number_of}
use Rattle.outcome.specs.Outcome.{area_after}
use Rattle.outcome.specs.Answers.{answer}
use Rattle.outcome.proofs.Outcomes.{turned_down}
use Rattle.plan_lines.specs.PlanText.{read_plan}
use Rattle.plan_text.specs.Outcomes.{steps_in}
use Rattle.plan_text.proofs.Answering.{at_front}
use Rattle.source.specs.Source.{below, of_known, of_text}
use Rattle.source.proofs.Sourced.{on_steps, on_refusal, few}
use Rattle.source.proofs.put_text.Goals as goal

pub put_known-requires : goal.put_known-requires
put_known-requires c =
    let a = c.args in
    let e = sym c.read.ensures.result_value ∙ ap answer c.in_ok-n.was in
    let front = c.front.ensures ∙ at_front a.text.now _ c.read.new.out 2048 c.in_ok-n.n e c.read.ensures.out_after in
    (omega (arith, ap length front, few a.text.now c.in_ok-n.n e), search rules)

pub returns-in_err-n : goal.returns-in_err-n
returns-in_err-n c =
    let a = c.args in
    let f = c.in_err-n.field-0.0 in
    let r = err_from_is_err_and c.from_residual.result c.from_residual.ensures.1 in
    let e = sym c.read.ensures.result_value ∙ ap answer c.in_err-n.was in
    let z = as_sizes a.z in
    let room = length a.out.now in
    let parts = turned_down (below a.z.actions (steps_in a.text.now)) a.out.now (of_text z room (read_plan a.text.now)) (answer c.from_residual.result)
    (number_of f.cause) f.place (ap answer (r.1 ∙ ap Err r.2)) (on_refusal z room a.text.now (number_of f.cause) f.place e) in
    record { result_value = parts.0; out_after = parts.1 }

pub returns : goal.returns
returns c =
    let a = c.args in
    let e = sym c.read.ensures.result_value ∙ ap answer c.in_ok-n.was in
    let t = a.text.now in
    let front = c.front.ensures ∙ at_front t _ c.read.new.out 2048 c.in_ok-n.n e c.read.ensures.out_after in
    let z = as_sizes a.z in
    let room = length a.out.now in
    let same = sym (on_steps z room t c.in_ok-n.n e) in record {
      result_value = c.put_known.ensures.result_value ∙ ap (of_known z room) front ∙ same;
      out_after = c.put_known.ensures.out_after
          ∙ ap (λ (p : List ℕ). area_after (below a.z.actions p) a.out.now (of_known z room p)) front
          ∙ ap (area_after (below a.z.actions (steps_in t)) a.out.now) same;
    }
