-- The answer is that of `week_of`, by `Weeks`.
use borrow.Author.Tests.{not-true, not-false}
use mathlib.Core.Path.{◌≡◌, sym, ap, subst⁻¹, ◌∙◌}
use mathlib.Core.Bool.{true}
use Rattle.std.specs.Prelude.{Ok, Err}
use Rattle.std.proofs.lemmas.Result.{err_from_is_err_and}
use Rattle.task.specs.Check
use Rattle.task.specs.Check.{check}
use Rattle.task.specs.Answers.{answer as checked, as_sizes}
use Rattle.figures.specs.Plans.{readable}
use Rattle.figures.specs.Pass.{closed}
use Rattle.weekly.specs.Answers.{as_tally}
use Rattle.weekly.proofs.Weeks.{Kept, given_kept, refused_kept, turned_down, unreadable, few, of_pass, counted}
use Rattle.weekly.proofs.week.Goals as goal
use Rattle.weekly.proofs.week.Goals.{Else-not-is_readable, In_ok-z}

accepted : (c : In_ok-z) → check c.args.file.now ≡ Check.accepted (as_sizes c.in_ok-z.z)
accepted c = sym c.check.ensures ∙ ap checked c.in_ok-z.was

read : (c : Else-not-is_readable) → readable c.args.plans.now ≡ true
read c = sym c.is_readable.ensures ∙ not-false _ c.if-not-is_readable.false-raw

pub returns-in_err-z : goal.returns-in_err-z
returns-in_err-z c =
    let a = c.args in
    let r = err_from_is_err_and c.from_residual.result c.from_residual.ensures.1 in
    let k = subst⁻¹ (Kept a.file.now a.plans.now) (r.1 ∙ ap Err r.2)
    (refused_kept a.file.now a.plans.now c.in_err-z.field-0.0
    (turned_down a.file.now a.plans.now c.check.result c.check.ensures c.in_err-z.field-0.0 c.in_err-z.was)) in
    record { result_value = k.result_value; value = k.value; promised = k.promises }

pub returns-then-not-is_readable : goal.returns-then-not-is_readable
returns-then-not-is_readable c =
    let a = c.args in
    let k = refused_kept a.file.now a.plans.now c.at.result
    (rw c.at.ensures (unreadable a.file.now a.plans.now (as_sizes c.in_ok-z.z) (accepted (goal.at.returns-then-not-is_readable c).In_ok-z)
    (sym c.is_readable.ensures ∙ not-true _ c.if-not-is_readable.true-raw))) in
    record { result_value = k.result_value; value = k.value; promised = k.promises }

pub pass-requires : goal.pass-requires
pass-requires c = (accepted (goal.at.pass-requires c).In_ok-z, read (goal.at.pass-requires c).Else-not-is_readable)

pub returns-in_err-t : goal.returns-in_err-t
returns-in_err-t c =
    let a = c.args in
    let at = goal.at.returns-in_err-t c in
    let r = err_from_is_err_and c.from_residual-in_err-t.result c.from_residual-in_err-t.ensures.1 in
    let k = subst⁻¹ (Kept a.file.now a.plans.now) (r.1 ∙ ap Err r.2)
    (refused_kept a.file.now a.plans.now c.in_err-t.field-0.0
    (of_pass a.file.now a.plans.now (as_sizes c.in_ok-z.z) (accepted at.In_ok-z) (read at.Else-not-is_readable) c.pass.result
    c.pass.ensures.passed (Err c.in_err-t.field-0.0) c.in_err-t.was)) in
    record { result_value = k.result_value; value = k.value; promised = k.promises }

pub amounts_of-requires : goal.amounts_of-requires
amounts_of-requires c =
    let a = c.args in
    let at = goal.at.amounts_of-requires c in (
      few a.file.now a.plans.now (as_sizes c.in_ok-z.z) (accepted at.In_ok-z),
      counted a.file.now a.plans.now (as_sizes c.in_ok-z.z) (accepted at.In_ok-z) (read at.Else-not-is_readable) c.pass.result
          c.pass.ensures.passed c.pass.ensures.counting_in c.in_ok-t.t c.in_ok-t.was,
    )

pub returns : goal.returns
returns c =
    let a = c.args in
    let at = goal.at.returns c in
    let k = given_kept a.file.now a.plans.now c.amounts_of.result (closed c.in_ok-z.z.preferences (as_tally c.in_ok-t.t)) c.amounts_of.ensures
    (of_pass a.file.now a.plans.now (as_sizes c.in_ok-z.z) (accepted at.In_ok-z) (read at.Else-not-is_readable) c.pass.result
    c.pass.ensures.passed (Ok c.in_ok-t.t) c.in_ok-t.was) in
    record { result_value = k.result_value; value = k.value; promised = k.promises }
