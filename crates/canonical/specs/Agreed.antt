-- The agreed order, as a test: request 10's words for the one spelling, beside its definition.
use Rattle.std.specs.Prelude.{Bool, true, cond, ◌&&◌, List, [], ◌∷◌, ℕ, suc, ◌+◌, ◌*◌, leb}
use Rattle.lists.specs.Lists.{all}
use Rattle.meaning.specs.Task.{Literal, Clause, Condition, Effect, Action, Preference, Task}

-- each has at least the floor for its rank, and more than the one before it: so none stands twice
abbrev pub rising_by : {A : Type 0} → (A → ℕ) → ℕ → List A → Bool
rising_by rank floor [] = true
rising_by rank floor (x ∷ xs) = leb floor (rank x) && rising_by rank (suc (rank x)) xs

-- literals rise by fact, HOLDS before LACKS
abbrev pub literal_rank : Literal → ℕ
literal_rank l = 2 * l.fact + cond l.holds 0 1

abbrev pub agreed_clause : Clause → Bool
agreed_clause = rising_by literal_rank 0

abbrev pub agreed_facts : List ℕ → Bool
agreed_facts = rising_by (λ (n : ℕ). n) 0

abbrev pub agreed_condition : Condition → Bool
agreed_condition = all agreed_clause

abbrev pub agreed_effect : Effect → Bool
agreed_effect e = agreed_condition e.condition && agreed_facts e.adds && agreed_facts e.deletes

abbrev pub agreed_action : Action → Bool
agreed_action a = agreed_condition a.precondition && all agreed_effect a.effects

abbrev pub agreed_preference : Preference → Bool
agreed_preference q = agreed_condition q.first && agreed_condition q.second

abbrev pub agreed : Task → Bool
agreed t = agreed_condition t.goal && all agreed_action t.actions && all agreed_preference t.preferences
