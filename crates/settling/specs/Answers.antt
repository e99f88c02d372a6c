-- What the answers of `settle` stand for: the values of each case.
use Rattle.std.specs.Prelude.{Result, Ok, Err}
use Rattle.task.specs.Answers.{number_of}
use Rattle.task.specs.declared.Refusal.{Refusal}
use Rattle.settling.specs.Settled
use Rattle.settling.specs.declared.Worth.{Worth}

abbrev pub settled_as : Result Worth Refusal → Settled.Settled
settled_as (Ok w) = Settled.worth w.metric w.utility
settled_as (Err r) = Settled.refused (number_of r.cause) r.place
