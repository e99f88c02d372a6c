-- The file of the spelling's rows xs, counted as n, in an area that was b: refused by 9, or the sizes and then the rows.
use mathlib.Core.Path.{◌≡◌, refl, sym, ap, ◌∙◌}
use mathlib.Core.List.{List, ◌++◌}
use Prim.Native.Nat.{ℕ, ◌+◌, ◌*◌, ◌≤◌}
use native.Mathlib.Omega.{arith}
use Rattle.std.specs.Prelude.{Result, Ok, Err}
use lib.ListN.{length, take, drop}
use lib.Seq.{sets, sets-eq, length-sets, take_at, drop-append-add, drop-drop}
use borrow.Author.Tests.{le-leb}
use Rattle.task.specs.TaskRows.{Row}
use Rattle.task.specs.File.{file_of_rows}
use Rattle.task.proofs.Bytes.{file_length}
use Rattle.writer.specs.Writer.{row_after, put_rows, Wrote, header}
use Rattle.writer.specs.declared.Cursor.{Cursor}
use Rattle.writer.proofs.Putting.{whole_file}
use Rattle.outcome.specs.Outcome.{written, fitted, area_after}
use Rattle.outcome.specs.Answers.{answer}
use Rattle.task.specs.declared.Refusal.{Refusal}
use Rattle.spelling.specs.Outcome.{Fitted}

module _ (F A P : ℕ) (xs : List Row) (b : List ℕ) (n : ℕ) (counted : n ≡ row_after 0 (length xs)) (few : length xs ≤ 12000) where
  abbrev file : List ℕ
  file = file_of_rows F A P xs

  n_is : n ≡ length xs
  n_is = omega (arith, counted)

  due : fitted (8 + 5 * n) (length b) ≡ fitted (length file) (length b)
  due = ap (λ (m : ℕ). fitted m (length b)) (ap (λ (m : ℕ). 8 + 5 * m) n_is ∙ sym (file_length F A P xs))

  pub no_room : (x : Result ℕ Refusal) (r : Refusal) → x ≡ Err r → answer (Err r) ≡ fitted (8 + 5 * n) (length b) → Fitted file b x b
  no_room x r q e = record { answering = ap answer q ∙ e ∙ due; area = sym (ap (λ (y : Result ℕ Refusal). area_after file b (answer y)) q) }

  -- the area with the sizes written, and then with the rows
  module _ (mid out : List ℕ) (k : Cursor) (room : 8 + 5 * n ≤ length b) (sized : mid ≡ sets b 0 (header F A P n))
      (w : Wrote mid (record { rows = n; next = 0 }) xs k out) where
    mid_is : mid ≡ header F A P (length xs) ++ drop 8 b
    mid_is =
        sized ∙ ap (λ (m : ℕ). sets b 0 (header F A P m)) n_is ∙ sets-eq (header F A P (length xs)) b 0 (omega arith)

    after : drop (8 + 5 * length xs) mid ≡ drop (8 + 5 * n) b
    after =
        ap (drop (8 + 5 * length xs)) mid_is
        ∙ drop-append-add (header F A P (length xs)) (drop 8 b) (5 * length xs)
        ∙ drop-drop (5 * length xs) 8 b
        ∙ ap (λ (m : ℕ). drop (8 + 5 * m) b) (sym n_is)

    file_put : out ≡ file ++ drop (8 + 5 * n) b
    file_put =
        let long : 8 + 5 * length xs ≤ length mid = omega (arith, n_is, ap length sized, length-sets b 0 (header F A P n)) in
        w.file
        ∙ ap (λ (m : ℕ). put_rows mid m 0 xs) n_is
        ∙ whole_file mid F A P xs long (ap (take 8) mid_is ∙ take_at (header F A P (length xs)) (drop 8 b) 8 refl)
        ∙ ap (λ (l : List ℕ). file ++ l) after

    pub put : (v : ℕ) → answer (Ok v) ≡ fitted (8 + 5 * n) (length b) → Fitted file b (Ok v) out
    put v e =
        let long : 8 + 5 * n ≡ length file = omega (arith, n_is, file_length F A P xs) in
        let g : length file ≤ length b = omega arith in
        let is : answer (Ok v) ≡ written (8 + 5 * n) = e ∙ due ∙ rw (le-leb (length file) (length b) g) (ap written (sym long)) in
        record { answering = e ∙ due; area = file_put ∙ sym (ap (area_after file b) is) }
