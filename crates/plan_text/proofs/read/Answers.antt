-- A text of 64 bytes holds no more steps, and no plan has more than 2,048: so either area of our own has room.
use mathlib.Core.Path.{ap}
use Rattle.std.specs.Prelude.{Err}
use lib.ListN.{length}
use Rattle.plan_text.specs.Outcomes.{read_outcome, steps_in}
use Rattle.outcome.specs.Answers.{answer}
use Rattle.outcome.proofs.Outcomes.{turned_down}
use Rattle.plan_text.proofs.Answering.{too_long}
use borrow.Author.Rules.{rules}
use Rattle.plan_text.proofs.read.Goals as goal

pub returns-then-text-gt-MAX_TEXT : goal.returns-then-text-gt-MAX_TEXT
returns-then-text-gt-MAX_TEXT c =
    let a = c.args in
    let parts = turned_down (steps_in a.text.now) a.out.now (read_outcome a.text.now (length a.out.now)) (answer (Err c.at.result)) 12 0
    (ap (λ f. answer (Err f)) c.at.ensures) (too_long a.text.now (length a.out.now) (search rules)) in
    record { result_value = parts.0; out_after = parts.1 }
