-- By what the search comes to: Written.
use mathlib.Core.Path.{◌≡◌, refl, sym, ◌∙◌, ap, subst, subst⁻¹}
use mathlib.Core.List.{List}
use Prim.Native.Nat.{ℕ}
use native.Mathlib.Omega.{arith}
use lib.ListN.{length, take, length-take}
use Rattle.text.specs.Area.{Filled}
use Rattle.std.specs.Prelude.{Result, Ok, Err}
use Rattle.std.proofs.lemmas.Result.{err_from_is_err_and}
use Rattle.task.specs.Answers.{number_of}
use Rattle.task.specs.declared.Refusal.{Refusal}
use Rattle.searching.specs.Limits.{MAX_NODES}
use Rattle.searched.specs.Searched
use Rattle.searched.specs.Searched.{Answer, Searched, search_file}
use Rattle.finding.specs.Finding.{as_searched, Bounded}
use Rattle.finding.specs.declared.Sought.{Sought}
use Rattle.finding.specs.declared.Sought.TheVariants.{Found, NoPlan, Full}
use Rattle.planned.specs.declared.Planned.{Planned}
use Rattle.planned.specs.Planned.{planned_text, outcome_of, as_outcome}
use Rattle.planned.proofs.Written.{found_written, none_written}
use Rattle.planned.proofs.write.Goals as goal
use Rattle.planned.proofs.write.Goals.{After-find}

-- the answer of the search on a file
abbrev whole : List ℕ → Answer
whole file = (search_file file MAX_NODES MAX_NODES).answer

-- what the search answers
module _ (c : After-find) where
  answered : (s : Result Sought Refusal) → c.find.result ≡ s → (as_searched c.find.new.plan c.find.new.words s).answer ≡ whole c.args.file.now
  answered s e = ap (λ (x : Searched). x.answer) (ap (as_searched c.find.new.plan c.find.new.words) (sym e) ∙ c.find.ensures.result_after)

  bounded : (s : Result Sought Refusal) → c.find.result ≡ s → Bounded s
  bounded s e = subst Bounded e c.find.ensures.bounded.0

pub put-requires : goal.put-requires
put-requires c =
    let few = (bounded (goal.at.put-requires c).After-find (Ok (Found c.in-Found.route c.in-Found.field-1)) (c.in_ok-s.was ∙ ap Ok c.in-Found.is)).0 in
    omega (arith, ap length c.front.ensures, length-take c.in-Found.route.steps c.find.new.plan, few)

pub returns-in-Found : goal.returns-in-Found
returns-in-Found c =
    let f = (goal.at.returns-in-Found c).After-find in
    let out = c.args.out.now in
    let route = c.in-Found.route in
    let parts =
    found_written (whole c.args.file.now) (take route.steps c.find.new.plan) route.cost (answered f (Ok (Found route c.in-Found.field-1)) (c.in_ok-s.was ∙ ap Ok c.in-Found.is))
    out c.put.new.out c.put.result
    (subst (λ (l : List ℕ). Filled out (planned_text l route.cost) c.put.result c.put.new.out) c.front.ensures c.put.ensures) in
    record { result_value = parts.0; out_after = parts.1 }

pub returns-in-NoPlan : goal.returns-in-NoPlan
returns-in-NoPlan c =
    let f = (goal.at.returns-in-NoPlan c).After-find in
    let parts = none_written (whole c.args.file.now) Searched.no_plan (answered f (Ok (NoPlan c.in-NoPlan.field-0)) (c.in_ok-s.was ∙ ap Ok c.in-NoPlan.is)) c.args.out.now refl in
    record { result_value = parts.0; out_after = parts.1 }

pub returns-in-Full : goal.returns-in-Full
returns-in-Full c =
    let f = (goal.at.returns-in-Full c).After-find in
    let parts = none_written (whole c.args.file.now) Searched.full (answered f (Ok (Full c.in-Full.field-0)) (c.in_ok-s.was ∙ ap Ok c.in-Full.is)) c.args.out.now refl in
    record { result_value = parts.0; out_after = parts.1 }

pub returns-in_err-s : goal.returns-in_err-s
returns-in_err-s c =
    let f = (goal.at.returns-in_err-s c).After-find in
    let r = c.in_err-s.field-0.0 in
    let e = err_from_is_err_and c.from_residual.result c.from_residual.ensures.1 in
    let parts =
    none_written (whole c.args.file.now) (Searched.refused (number_of r.cause) r.place) (answered f (Err r) c.in_err-s.was) c.args.out.now refl in
    record {
      result_value =
          subst⁻¹ (λ (x : Result Planned Refusal). as_outcome x ≡ outcome_of (whole c.args.file.now)) (e.1 ∙ ap Err e.2) parts.0;
      out_after = parts.1;
    }
