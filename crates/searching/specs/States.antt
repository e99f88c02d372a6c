-- Which facts a state may hold.
use Rattle.std.specs.Prelude.{◌≡◌, false, ℕ, ◌≤◌}
use Rattle.meaning.specs.Meaning.{State}

-- no fact from F on holds
abbrev pub Below : ℕ → State → Type 0
Below F s = (n : ℕ) → F ≤ n → s n ≡ false
