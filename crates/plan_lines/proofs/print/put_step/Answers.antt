-- The line and its newline are written as a word, the digits and a word: then of Writing. The last word is the closing bracket and
-- the newline: append_assoc.
use mathlib.Core.Path.{◌≡◌, sym, ap, subst}
use mathlib.Core.List.{List, [], ◌∷◌, ◌++◌, append_assoc}
use Prim.Native.Nat.{ℕ}
use native.Mathlib.Omega.{arith}
use lib.ListN.{length-append}
use Rattle.text.specs.Ascii.{ascii}
use Rattle.text.specs.Text.{decimal}
use Rattle.text.specs.Area.{Wrote}
use Rattle.text.proofs.Decimal.{few_digits}
use Rattle.text.proofs.Writing.{then}
use Rattle.plan_lines.specs.PlanText.{step_line}
use borrow.Author.Rules.{rules}
use Rattle.plan_lines.proofs.print.put_step.Goals as goal

-- a step's line with its newline
ended : (n : ℕ) → ascii "(a" ++ (decimal n ++ ascii ")\n") ≡ step_line n ++ (10 ∷ [])
unfolding step_line
ended n = ap (λ (l : List ℕ). ascii "(a" ++ l) (sym (append_assoc (decimal n) (ascii ")") (10 ∷ [])))

pub returns : goal.returns
returns c =
    let a = c.args in
    let put = then c.put_bytes-a.ensures (then c.put_decimal-b.ensures.wrote c.put_bytes.ensures) in
    let line = subst (λ (l : List ℕ). Wrote a.out.now a.at l c.put_bytes.result c.put_bytes.new.out) (ended a.step) put in
    record { wrote = line; upper_bound = omega (arith, put.after, length-append (decimal a.step) (ascii ")\n"), few_digits 2 a.step (search rules)) }
