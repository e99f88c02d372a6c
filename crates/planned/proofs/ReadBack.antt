-- The text is read as the plan: its last line is a comment.
use mathlib.Core.Path.{◌≡◌, sym, ◌∙◌, ap}
use mathlib.Core.Bool.{true}
use mathlib.Core.List.{List, [], ◌∷◌, ◌++◌, map, append_assoc}
use Prim.Native.Nat.{ℕ, suc, ◌≤◌}
use native.Mathlib.Omega.{arith}
use lib.Dec.{T}
use lib.ListN.{length, length-append}
use Rattle.lists.proofs.Tests.{as_t, without, none_of, all_both, all_implies}
use Rattle.text.specs.Ascii.{ascii}
use Rattle.text.specs.Text.{decimal, is_digit}
use Rattle.text.proofs.Digits.{decimal_digits}
use Rattle.plan_lines.specs.PlanText.{NEWLINE, step_line, text_of, lines_of, as_byte, plan, read_lines, read_plan}
use Rattle.plan_lines.proofs.Returned.{digit_inside, one_line_lem, line_back, read_back, bytes, returned}
use Rattle.plan_lines.proofs.Splitting.{is_newline, one_line, line_ended, by_lines}
use Rattle.planned.specs.Planned.{planned_text}

module _ (c : ℕ) where
  abbrev cost_line : List ℕ
  cost_line = ascii "; cost = " ++ decimal c

  abbrev last : List ℕ
  last = ascii "; cost = " ++ (decimal c ++ ascii "\n")

  cost_one_line : T (one_line cost_line)
  cost_one_line =
      let ds : T (none_of is_newline (decimal c)) = all_implies is_digit (without is_newline) digit_inside (decimal c) (as_t (decimal_digits c)) in
      all_both (without is_newline) (ascii "; cost = ") (decimal c) tt ds

  last_line : (i : ℕ) → read_lines i (lines_of last) ≡ plan []
  last_line i =
      ap (λ (t : List ℕ). read_lines i (lines_of t)) (sym (append_assoc (ascii "; cost = ") (decimal c) (ascii "\n")))
      ∙ ap (read_lines i) (line_ended cost_line [] cost_one_line)

  back : (i : ℕ) (ns : List ℕ) → read_lines i (lines_of (text_of ns ++ last)) ≡ plan (map as_byte ns)
  unfolding text_of
  back i [] = last_line i
  back i (n ∷ ns) =
      ap (λ (t : List ℕ). read_lines i (lines_of t)) (append_assoc (step_line n) (NEWLINE ∷ text_of ns) last)
      ∙ rw (line_ended (step_line n) (text_of ns ++ last) (one_line_lem n), line_back n, back (suc i) ns)

  -- a text of steps of one byte
  pub planned_back : (p : List ℕ) → bytes p ≡ true → length p ≤ 2048 → length (planned_text p c) ≤ 65536 → read_plan (planned_text p c) ≡ plan p
  unfolding planned_text
  planned_back p h few short =
      by_lines (text_of p ++ last) short ∙ back 0 p
      ∙ sym (read_back p (omega (arith, short, length-append (text_of p) last))) ∙ returned p h few
