-- What the answers of `lost` stand for: the values of each case.
use Rattle.std.specs.Prelude.{Result, Ok, Err}
use Rattle.task.specs.Answers.{number_of}
use Rattle.task.specs.declared.Refusal.{Refusal}
use Rattle.lost_run.specs.Run.{run_as}
use Rattle.lost_run.specs.declared.Run.{Run}
use Rattle.lost.specs.Answered.{Answered, given, refused}

abbrev pub losses_as : Result Run Refusal → Answered
losses_as (Ok x) = given (run_as x)
losses_as (Err r) = refused (number_of r.cause) r.place
