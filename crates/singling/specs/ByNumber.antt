-- The choices as code writes them, by number: the number of a choice is read digit by digit, a clause's digit being a place in it.
use Rattle.std.specs.Prelude.{true, List, [], ◌∷◌, ℕ, ◌/◌, ◌%◌, get_or}
use Rattle.meaning.specs.Task.{Literal, Condition}
use Rattle.singling.specs.Singled.{choice_count}

-- stands where there is no literal
abbrev pub no_literal : Literal
no_literal = record { holds = true; fact = 0 }

-- choice j
abbrev pub choice_at : Condition → ℕ → List Literal
choice_at [] j = []
choice_at (c ∷ cs) j = get_or c (j / choice_count cs) no_literal ∷ choice_at cs (j % choice_count cs)
