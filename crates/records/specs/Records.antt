-- What the contract of `next_record` cites.
use Rattle.std.specs.Prelude.{ℕ, ◌≤◌, ◌≡◌, List, length, drop, Option, Some, None}

-- The buffer that held `was` and now holds `is`: a record lies at its start, and after the record nothing has changed.
-- Where there is no record, any of its bytes may have changed.
abbrev pub Filled : Option ℕ → List ℕ → List ℕ → Type 0
Filled (Some n) was is = (n ≤ length is) × (drop n is ≡ drop n was)
Filled None was is = Unit {0}
