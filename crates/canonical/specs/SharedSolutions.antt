-- What two translations have in common where their sources mean the same: c translates s, and d translates t.
use Rattle.std.specs.Prelude.{◌≡◌, ◌↔◌, List, ℕ, T}
use Rattle.meaning.specs.Task.{Task}
use Rattle.meaning.specs.Meaning.{solves, cost}
use Rattle.classical.specs.Claim.{source_part, Least, None}

-- p is the source part of a solution of c that costs m
abbrev pub SolvedBy : Task → Task → List ℕ → ℕ → Type 0
SolvedBy s c p m = (x : List ℕ) × T (solves c x) × (source_part s x ≡ p) × (cost c x ≡ m)

-- solutions: the source parts of their solutions are the same lists, at the same costs;
-- least, none: so the least cost is the same, and no solution on one side means none on the other
pub record SharedSolutions (s c t d : Task) : Type 0 where
  pub solutions : (p : List ℕ) (m : ℕ) → SolvedBy s c p m ↔ SolvedBy t d p m
  pub least : (m : ℕ) → Least (solves c) (cost c) m ↔ Least (solves d) (cost d) m
  pub none : None (solves c) ↔ None (solves d)
