-- The area holds the sizes and then the rows, which is the file (`file_put`).
use mathlib.Core.Path.{refl, sym, ap, ◌∙◌}
use mathlib.Core.List.{◌++◌}
use Prim.Native.Nat.{ℕ, ◌+◌, ◌*◌}
use lib.ListN.{length, drop}
use Rattle.outcome.specs.Outcome.{written}
use Rattle.outcome.specs.Answers.{answer}
use Rattle.task.specs.File.{file_of}
use Rattle.task.specs.TaskRows.{task_rows}
use Rattle.classical.specs.Translation.{translated}
use Rattle.translated_rows.specs.Parts.{read_task}
use Rattle.translation.proofs.Translating.{fits_is, room_enough, file_put}
use Rattle.translation.proofs.put_file.Goals as goal

pub returns : goal.returns
returns c =
    let a = c.args in
    let z = a.m.sizes in
    let sized = c.requires.sized in
    let t = read_task z.facts a.rows.now.marks.now a.rows.now.values.now in
    let counted = c.requires.counted.rows_are in
    let n = a.m.rows in
    let b = a.out.now in
    let fits = fits_is (8 + 5 * n) (length b) c.in_ok-length.length (ap answer (sym c.in_ok-length.was) ∙ c.fitted.ensures) in
    record {
      answering = ap written fits.0 ∙ room_enough (length (task_rows (translated t))) n (length b) counted c.requires.counted.few_rows fits.1;
      area = file_put t z.facts z.actions z.preferences a.m.further refl sized.actions_are sized.source.many sized.further_are
          b c.put_sizes.new.out c.put_task.new.out n c.put_task.result counted c.requires.counted.few_rows fits.1 c.put_sizes.ensures c.put_task.ensures
          ∙ ap (λ (k : ℕ). file_of (translated t) ++ drop k b) (sym fits.0);
    }
