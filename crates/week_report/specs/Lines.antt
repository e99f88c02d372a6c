-- The lines of a week: document 02, request 14.
use Rattle.std.specs.Prelude.{List, ◌++◌, ℕ}
use Prim.Native.String.{String}
use Rattle.text.specs.Ascii.{ascii}
use Rattle.text.specs.Text.{decimal}
use Rattle.figures.specs.Figures.{Amounts}

-- a word and a number
abbrev pub labelled : String → ℕ → List ℕ
labelled w n = ascii w ++ decimal n

unfoldable pub plans_line : ℕ → List ℕ
plans_line n = labelled "plans " n ++ ascii "\n"

unfoldable pub solving_line : ℕ → List ℕ
solving_line n = labelled "solving " n ++ ascii "\n"

unfoldable pub metric_line : Amounts → List ℕ
metric_line a =
    labelled "metric least " a.lowest ++ labelled " greatest " a.highest ++ labelled " sum " a.total
    ++ labelled " mean " a.quotient ++ labelled " remainder " a.remainder ++ ascii "\n"

-- so many plans that solve meet preference k
unfoldable pub meeting_line : ℕ → ℕ → List ℕ
meeting_line k n = labelled "preference " k ++ labelled " met " n ++ ascii "\n"
