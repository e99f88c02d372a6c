-- Each mark is within the bits of all four: four_within of Weighing.
use Rattle.settling.proofs.Weighing.{four_within}
use Rattle.settling.proofs.amounts.four_marks.Goals as goal

pub returns : goal.returns
returns c = let a = c.args in four_within a.marks.now a.i
