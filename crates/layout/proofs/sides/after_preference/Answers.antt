-- The row after a preference, by whether there is a row at all.
use mathlib.Core.Path.{ap}
use lib.ListN.{length}
use borrow.Author.Tests.{le-leb, lt-leb}
use Rattle.layout.specs.declared.sides.Sides.{Sides}
use borrow.Author.Rules.{rules}
use Rattle.layout.proofs.sides.after_preference.Goals as goal

pub returns-then-marks-at : goal.returns-then-marks-at
returns-then-marks-at c = let a = c.args in rw (le-leb (length a.marks.now) a.at (search rules))

pub returns : goal.returns
returns c =
    let a = c.args in
    rw (lt-leb (length a.marks.now) a.at (search rules)) (ap (λ (p : Sides). p.second.to) c.locate-p.ensures.value)
