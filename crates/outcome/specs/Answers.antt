-- What the code's outcomes stand for: the values of each case.
use Rattle.std.specs.Prelude.{ℕ, Result, Ok, Err}
use Rattle.task.specs.Answers.{number_of}
use Rattle.task.specs.declared.Refusal.{Refusal}
use Rattle.outcome.specs.Outcome

abbrev pub answer : Result ℕ Refusal → Outcome.Outcome
answer (Ok n) = Outcome.written n
answer (Err r) = Outcome.refused (number_of r.cause) r.place
