-- What the code's amounts stand for, without the counts.
use Rattle.std.specs.Prelude.{[]}
use Rattle.figures.specs.Figures
use Rattle.weekly.specs.declared.Amounts.{Amounts}

abbrev pub amounts_of : Amounts → Figures.Amounts
amounts_of a = record { meetings = []; lowest = a.least; highest = a.greatest; total = a.sum; quotient = a.mean; remainder = a.remainder }
