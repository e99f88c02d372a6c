-- The number of choices as code counts it: clause after clause, and no further than 65, which is too many already.
use Rattle.std.specs.Prelude.{[], ◌∷◌, ℕ, ◌*◌, min, length}
use Rattle.meaning.specs.Task.{Condition}

abbrev pub capped : ℕ → ℕ
capped n = min n 65

abbrev pub count_on : ℕ → Condition → ℕ
count_on n [] = n
count_on n (c ∷ cs) = count_on (capped (n * length c)) cs
