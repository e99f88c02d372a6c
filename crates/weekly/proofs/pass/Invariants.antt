-- Each turn takes in one plan of the file, by `Passing`.
use Rattle.weekly.specs.Answers.{as_tally}
use Rattle.weekly.proofs.Passing.{Passing}
use Rattle.weekly.proofs.pass.Given as goal

abbrev pub invariant-loop-i : goal.invariant-loop-i
invariant-loop-i l = Passing l.file l.plans l.z.preferences (as_tally l.t) l.i
