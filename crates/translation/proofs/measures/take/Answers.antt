-- What a file that check accepts measures, and what any other is refused by, by `Measuring`.
use mathlib.Core.Path.{◌≡◌, sym, ap, ◌∙◌}
use mathlib.Core.List.{[]}
use lib.ListN.{drop}
use borrow.Author.Rules.{rules}
use borrow.Author.Tests.{not-true, not-false}
use Rattle.std.specs.Prelude.{Result, Err}
use Rattle.std.proofs.lemmas.Result.{err_from_is_err_and}
use Rattle.task.specs.Answers.{as_sizes}
use Rattle.task.specs.declared.Refusal.{Refusal}
use Rattle.task.specs.File.{paired, marks_of, values_of}
use Rattle.task.proofs.Answered.{answered, has_rows}
use Rattle.translated_rows.specs.Parts.{Found}
use Rattle.translated_rows.specs.Further.{further_rows}
use Rattle.translation.specs.Measured.{measured_as, sizes_in}
use Rattle.translation.specs.declared.measures.Measures.{Measures}
use Rattle.translation.proofs.Translating.{accepted, put_source}
use Rattle.translation.proofs.Measuring.{turned_down, too_large, too_many, fits}
use Rattle.translation.proofs.measures.take.Goals as goal
use Rattle.translation.proofs.measures.take.Goals.{After-count-further}

pub returns-in_err-sizes-clause-result_value : goal.returns-in_err-sizes-clause-result_value
returns-in_err-sizes-clause-result_value c =
    let r = err_from_is_err_and c.from_residual.result c.from_residual.ensures.1 in
    ap (λ (x : Result Measures Refusal). measured_as (sizes_in x)) (r.1 ∙ ap Err r.2) ∙ turned_down c.args.file.now c.check.result c.check.ensures c.in_err-sizes.field-0.0 c.in_err-sizes.was

pub rows_of-rows-requires : goal.rows_of-rows-requires
rows_of-rows-requires c =
    has_rows c.args.file.now (as_sizes c.in_ok-sizes.sizes) (accepted c.args.file.now [] c.check.result c.check.ensures c.in_ok-sizes.sizes c.in_ok-sizes.was)

-- what is found in the rows, and counted, is so of the file's
measured : (c : After-count-further) → let b = c.args.file.now in let n = c.in_ok-sizes.sizes.rows in
    Found (marks_of b n) c.find-places.result
    × (c.count-further.result ≡ further_rows (drop c.find-places.result.to (paired (marks_of b n) (values_of b n))))
measured c =
    let r = c.rows_of-rows.ensures in
    (rw r.marks at c.find-places.ensures, rw (r.marks, r.values) at c.count-further.ensures.0)

pub small_enough-requires : goal.small_enough-requires
small_enough-requires c = let h = answered c.args.file.now c.check.result c.check.ensures c.in_ok-sizes.sizes c.in_ok-sizes.was in search rules

pub returns-then-not-small_enough-clause-result_value : goal.returns-then-not-small_enough-clause-result_value
returns-then-not-small_enough-clause-result_value c =
    let a = c.args in
    rw c.at.ensures (too_large a.file.now c.check.result c.check.ensures c.in_ok-sizes.sizes c.in_ok-sizes.was
    c.find-places.result c.count-further.result (measured (goal.at.returns-then-not-small_enough-clause-result_value c).After-count-further)
    (sym c.small_enough.ensures ∙ not-true c.small_enough.result c.if-not-small_enough.true-raw))

pub count_rows-rows-requires : goal.count_rows-rows-requires
count_rows-rows-requires c =
    let b = c.args.file.now in
    let x = c.check.result in
    let e = c.check.ensures in
    let z = c.in_ok-sizes.sizes in
    let q = c.in_ok-sizes.was in
    let small = sym c.small_enough.ensures ∙ not-false c.small_enough.result c.if-not-small_enough.false-raw in (
      c.find-places.ensures,
      rw (c.rows_of-rows.ensures.marks, c.rows_of-rows.ensures.values)
          (put_source b [] x e z q c.find-places.result c.count-further.result (measured (goal.at.count_rows-rows-requires c).After-count-further) small).source,
    )

pub returns-then-rows-gt-MAX_ROWS-clause-result_value : goal.returns-then-rows-gt-MAX_ROWS-clause-result_value
returns-then-rows-gt-MAX_ROWS-clause-result_value c =
    let a = c.args in
    rw c.at-then-rows-gt-MAX_ROWS.ensures (too_many a.file.now c.check.result c.check.ensures c.in_ok-sizes.sizes c.in_ok-sizes.was
    c.find-places.result c.count-further.result (measured (goal.at.returns-then-rows-gt-MAX_ROWS-clause-result_value c).After-count-further)
    (sym c.small_enough.ensures ∙ not-false c.small_enough.result c.if-not-small_enough.false-raw)
    c.count_rows-rows.result (rw (c.rows_of-rows.ensures.marks, c.rows_of-rows.ensures.values) at c.count_rows-rows.ensures) (search rules))

pub returns : goal.returns
returns c =
    let b = c.args.file.now in
    let x = c.check.result in
    let e = c.check.ensures in
    let z = c.in_ok-sizes.sizes in
    let q = c.in_ok-sizes.was in
    let small = sym c.small_enough.ensures ∙ not-false c.small_enough.result c.if-not-small_enough.false-raw in
    let m = measured (goal.at.returns c).After-count-further in
    let counted = rw (c.rows_of-rows.ensures.marks, c.rows_of-rows.ensures.values) at c.count_rows-rows.ensures in
    record {
      result_value = fits b x e z q c.find-places.result c.count-further.result m small c.count_rows-rows.result counted (search rules);
      ok = record {
        accepting = accepted b [] x e z q;
        found = m.0;
        further_are = m.1;
        small = small;
        counted = record { rows_are = counted; few_rows = search rules };
      };
    }
