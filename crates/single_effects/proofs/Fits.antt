-- The file of the rows xs, counted as n, in an area that was b: refused by 8 or 9, or written.
use mathlib.Core.Path.{◌≡◌, refl, sym, ap, ◌∙◌}
use mathlib.Core.Option.{none}
use Rattle.std.specs.Prelude.{Result, Ok, Err}
use borrow.Author.Tests.{le-leb, lt-leb}
use mathlib.Core.List.{List}
use Prim.Native.Nat.{ℕ, ◌+◌, ◌*◌, ◌≤◌, ◌<◌}
use native.Mathlib.Omega.{arith}
use lib.ListN.{length}
use lib.Seq.{sets}
use Rattle.task.specs.TaskRows.{Row}
use Rattle.task.specs.File.{file_of_rows}
use Rattle.writer.specs.Writer.{row_after, Wrote, header}
use Rattle.writer.specs.declared.Cursor.{Cursor}
use Rattle.outcome.specs.Outcome.{refused, fitted, area_after}
use Rattle.outcome.specs.Answers.{answer}
use Rattle.task.specs.declared.Refusal.{Refusal}
use Rattle.singling.specs.Outcome.{rows_fitted}
use Rattle.spelling.proofs.Fitting
use Rattle.single_effects.specs.Whole.{Fitted}

module _ (F A P : ℕ) (xs : List Row) (b : List ℕ) (n : ℕ) (counted : n ≡ row_after 0 (length xs)) where
  abbrev file : List ℕ
  file = file_of_rows F A P xs

  all : n ≤ 12000 → n ≡ length xs
  all few = omega (arith, counted)

  due : n ≤ 12000 → fitted (8 + 5 * n) (length b) ≡ rows_fitted (length xs) (length b) none
  due few =
      let fewer : length xs ≤ 12000 = omega (arith, counted) in
      ap (λ (m : ℕ). fitted (8 + 5 * m) (length b)) (all few) ∙ sym (rw (le-leb (length xs) 12000 fewer))

  stays : (x : Result ℕ Refusal) (r : Refusal) → x ≡ Err r → answer (Err r) ≡ rows_fitted (length xs) (length b) none → Fitted (length xs) file b x b
  stays x r q e = record { answering = ap answer q ∙ e; area = sym (ap (λ (y : Result ℕ Refusal). area_after file b (answer y)) q) }

  pub too_many : (r : Refusal) → answer (Err r) ≡ refused 8 0 → 12000 < n → Fitted (length xs) file b (Err r) b
  too_many r e h =
      let l : 12000 < length xs = omega (arith, counted) in
      stays (Err r) r refl (e ∙ sym (rw (lt-leb (length xs) 12000 l)))

  module _ (few : n ≤ 12000) where
    pub no_room : (x : Result ℕ Refusal) (r : Refusal) → x ≡ Err r → answer (Err r) ≡ fitted (8 + 5 * n) (length b) → Fitted (length xs) file b x b
    no_room x r q e = stays x r q (e ∙ due few)

    -- the sizes were written, and then the rows
    pub put : (mid out : List ℕ) (k : Cursor) → 8 + 5 * n ≤ length b → mid ≡ sets b 0 (header F A P n)
        → Wrote mid (record { rows = n; next = 0 }) xs k out → (v : ℕ) → answer (Ok v) ≡ fitted (8 + 5 * n) (length b) → Fitted (length xs) file b (Ok v) out
    put mid out k room sized w v e =
        let all_few : length xs ≤ 12000 = omega (arith, counted) in
        record {
          answering = e ∙ due few;
          area = (Fitting.put F A P xs b n counted all_few mid out k room sized w v e).area;
        }
