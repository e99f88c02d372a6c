-- A task that can't be translated is refused as it is measured (`not_translated`); any other is written as put_file does (`put`).
use mathlib.Core.Path.{refl, sym, ap, ◌∙◌, subst⁻¹}
use Prim.Native.Nat.{ℕ}
use Rattle.std.specs.Prelude.{Result, Ok, Err}
use Rattle.std.proofs.lemmas.Result.{err_from_is_err_and}
use Rattle.task.specs.Answers.{as_sizes}
use Rattle.task.specs.declared.Refusal.{Refusal}
use Rattle.task.proofs.Answered.{has_rows}
use Rattle.translation.proofs.Translating.{Promised, put_source, put}
use Rattle.translation.proofs.Measuring.{not_translated}
use Rattle.translation.proofs.translate.Goals as goal

pub returns-in_err-m : goal.returns-in_err-m
returns-in_err-m c =
    let a = c.args in
    let r = err_from_is_err_and c.from_residual.result c.from_residual.ensures.1 in
    let p = subst⁻¹ (λ (x : Result ℕ Refusal). Promised a.file.now a.out.now x a.out.now) (r.1 ∙ ap Err r.2)
    (not_translated a.file.now a.out.now c.in_err-m.field-0.0 c.in_err-m.ensures.result_value) in
    record { result_value = p.0; out_after = p.1.0; by_index = p.1.1 }

pub rows_of-requires : goal.rows_of-requires
rows_of-requires c = has_rows c.args.file.now (as_sizes c.in_ok-m.m.sizes) c.in_ok-m.ensures.ok.accepting

pub put_file-requires : goal.put_file-requires
put_file-requires c =
    let a = c.args in
    let m = c.in_ok-m.m in
    let t = c.in_ok-m.ensures.ok in record {
      rows = rw c.rows_of.ensures.marks t.found;
      sized = rw (c.rows_of.ensures.marks, c.rows_of.ensures.values)
          (put_source a.file.now a.out.now (Ok m.sizes) (sym t.accepting) m.sizes refl m.places m.further (t.found, t.further_are) t.small);
      counted = rw (c.rows_of.ensures.marks, c.rows_of.ensures.values) t.counted;
    }

pub returns : goal.returns
returns c =
    let a = c.args in
    let m = c.in_ok-m.m in
    let t = c.in_ok-m.ensures.ok in
    let p = put a.file.now a.out.now (Ok m.sizes) (sym t.accepting) m.sizes refl m.places m.further (t.found, t.further_are) t.small
    c.put_file.result c.put_file.new.out (rw (c.rows_of.ensures.marks, c.rows_of.ensures.values) at c.put_file.ensures) in
    record { result_value = p.0; out_after = p.1.0; by_index = p.1.1 }
