-- How many literals are looked at, on examples: one table, and one claim that the definitions give what it says.
use mathlib.Core.Path.{◌≡◌, refl}
use mathlib.Core.Bool.{true, false}
use mathlib.Core.List.{List, [], ◌∷◌, map}
use Prim.Native.Nat.{ℕ, ◌+◌}
use lib.Dec.{eqb}
use Rattle.lists.specs.Lists.{singleton}
use Rattle.meaning.specs.Task.{Kind, at_end, sometime_before, within, always_within}
use Rattle.meaning.specs.Task.{Literal, Clause, Condition, Effect, Preference, Task}
use Rattle.meaning.specs.Meaning.{State}
use Rattle.meaning.specs.Literals.{looked_clause, looked_at, looked_preferences, looked_effects, literals}
use Rattle.meaning.proofs.DocumentExamples.{belt_task}

-- what the definitions give, and what the rule says
pub record Example : Type 0 where
  pub given : ℕ
  pub said : ℕ

abbrev example : ℕ → ℕ → Example
example g s = record { given = g; said = s }

abbrev yes : ℕ → Literal
yes n = record { holds = true; fact = n }

abbrev no : ℕ → Literal
no n = record { holds = false; fact = n }

abbrev rule : Kind → Condition → Condition → Preference
rule k φ ψ = record { kind = k; hard = false; weight = 1; first = φ; second = ψ }

-- The states of fact 0 alone and of fact 1 alone, and two clauses: x is true in both, after 2 and after 1 literals;
-- y is false in the first, after 3, and true in the second, after 2

abbrev s₀ : State
s₀ = eqb 0

abbrev s₁ : State
s₁ = eqb 1

abbrev x : Clause
x = yes 1 ∷ yes 0 ∷ yes 2 ∷ []

abbrev y : Clause
y = yes 2 ∷ no 0 ∷ yes 2 ∷ []

-- in s₀ the first fires, and the second doesn't
abbrev moves : List Effect
moves =
    record { condition = singleton x; adds = singleton 1; deletes = singleton 0 }
    ∷ record { condition = y ∷ x ∷ []; adds = singleton 2; deletes = [] }
    ∷ []

abbrev rules : List Preference
rules =
    rule at_end (singleton y) []
    ∷ rule (within 0) (singleton x) []
    ∷ rule sometime_before (singleton y) (singleton x)
    ∷ rule (always_within 1) (x ∷ y ∷ []) (y ∷ x ∷ [])
    ∷ []

-- action 0 leads from s₀ to s₁, where action 1 doesn't apply
abbrev yard : Task
yard =
    record {
      facts = 3;
      start = singleton 0;
      goal = y ∷ x ∷ [];
      actions =
          record { cost = 1; precondition = singleton x; effects = moves }
          ∷ record { cost = 1; precondition = x ∷ singleton (no 1) ∷ x ∷ []; effects = [] }
          ∷ [];
      preferences = rules;
    }

abbrev pub examples : List Example
examples =
    -- a clause up to its first true literal
    example (looked_clause s₀ x) 2
    ∷ example (looked_clause s₀ y) 3
    ∷ example (looked_clause s₁ x) 1
    -- no clauses; a true one and a false one; nothing after a false one
    ∷ example (looked_at s₀ []) 0
    ∷ example (looked_at s₀ (x ∷ y ∷ [])) (2 + 3)
    ∷ example (looked_at s₀ (y ∷ x ∷ [])) 3
    -- both sides of each kind, in every state
    ∷ example (looked_preferences s₀ rules) (3 + 2 + (3 + 2) + (5 + 3))
    ∷ example (looked_preferences s₁ rules) (2 + 1 + (2 + 1) + (3 + 3))
    ∷ example (looked_effects s₀ moves) (2 + 3)
    -- the goal alone, missed
    ∷ example (literals yard []) (18 + 3)
    -- a step and the goal
    ∷ example (literals yard (singleton 0)) (18 + 2 + 5 + (12 + 3))
    -- stopped by the second step, at the second clause of its precondition
    ∷ example (literals yard (0 ∷ 1 ∷ [])) (18 + 2 + 5 + (12 + 2))
    -- a step that changes nothing
    ∷ example (literals yard (singleton 1)) (18 + 5 + (18 + 3))
    -- the belt: two preferences in each state, and the goal
    ∷ example (literals belt_task (singleton 0)) (2 + (2 + 1))
    ∷ []

pub as_said : map (λ (e : Example). e.given) examples ≡ map (λ (e : Example). e.said) examples
unfolding literals
as_said = refl
