-- How many literals a walk looks at: document 02, request 7. A literal that stands twice counts each time it is looked at.
use Rattle.std.specs.Prelude.{cond, List, [], ◌∷◌, map, ℕ, suc, ◌+◌}
use Rattle.lists.specs.Lists.{any, sum}
use Rattle.meaning.specs.Task.{Clause, Condition, Effect, Preference, Task, two_sided}
use Rattle.meaning.specs.Meaning.{State, literal_true, opening, after, action_at, applies}

-- a clause is left at its first true literal
abbrev pub looked_clause : State → Clause → ℕ
looked_clause s [] = 0
looked_clause s (l ∷ ls) = suc (cond (literal_true s l) 0 (looked_clause s ls))

-- a condition is left at its first false clause
abbrev pub looked_at : State → Condition → ℕ
looked_at s [] = 0
looked_at s (ls ∷ c) = looked_clause s ls + cond (any (literal_true s) ls) (looked_at s c) 0

-- φ, then ψ where the kind has it: of every kind in every state, and whatever φ gave
abbrev pub looked_preference : State → Preference → ℕ
looked_preference s q = looked_at s q.first + cond (two_sided q.kind) (looked_at s q.second) 0

abbrev pub looked_preferences : State → List Preference → ℕ
looked_preferences s qs = sum (map (looked_preference s) qs)

-- the conditions of all effects, of those that don't fire too
abbrev pub looked_effects : State → List Effect → ℕ
looked_effects s es = sum (map (λ (e : Effect). looked_at s e.condition) es)

-- A plan from state s on: in each state the preferences, then the step's precondition and, where it applies, its effects;
-- in the last state the goal instead of these. A step that doesn't apply is the last that is looked at.
abbrev pub looked_from : Task → State → List ℕ → ℕ
looked_from t s [] = looked_preferences s t.preferences + looked_at s t.goal
looked_from t s (k ∷ ks) =
    looked_preferences s t.preferences
    + looked_at s (action_at t k).precondition
    + cond (applies t s k) (looked_effects s (action_at t k).effects + looked_from t (after s (action_at t k)) ks) 0

unfoldable pub literals : Task → List ℕ → ℕ
literals t p = looked_from t (opening t) p
