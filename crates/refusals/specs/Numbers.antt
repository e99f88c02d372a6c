-- A refusal by the number of its cause.
use Rattle.task.specs.Answers.{number_of}
use Rattle.task.specs.declared.Refusal.{Refusal}
use Rattle.refusals.specs.declared.Numbered.{Numbered}

abbrev pub numbered : Refusal → Numbered
numbered r = record { number = number_of r.cause; place = r.place }
