-- The lettered examples of document 01, a to l: one table, and one claim that the definitions give what it says.
use mathlib.Core.Path.{◌≡◌, refl}
use mathlib.Core.Bool.{true, false, cond}
use mathlib.Core.List.{List, [], ◌∷◌, map}
use Prim.Native.Nat.{ℕ, ◌-◌}
use Prim.Native.Char.{Char}
use lib.ListN.{get_or}
use Rattle.lists.specs.Lists.{singleton}
use Rattle.meaning.specs.Task.{Kind, always, sometime, at_end, at_most_once, sometime_before, sometime_after, Condition, Action, Preference, Task, two_sided}
use Rattle.meaning.specs.Meaning.{after, is_met, metric}

pub data Outcome : Type 0 where
  met missed held lacking : Outcome
  metric_of : ℕ → Outcome

-- what the definitions give, and what document 01 says
pub record Example : Type 0 where
  pub letter : Char
  pub given : Outcome
  pub said : Outcome

abbrev example : Char → Outcome → Outcome → Example
example l g s = record { letter = l; given = g; said = s }

-- A task whose states are by number: fact 0 is φ, fact 1 is ψ, and action n leads to state n

abbrev neither : ℕ
neither = 0

abbrev φ : ℕ
φ = 1

abbrev ψ : ℕ
ψ = 2

abbrev both : ℕ
both = 3

abbrev facts_of : ℕ → List ℕ
facts_of n = get_or ([] ∷ singleton 0 ∷ singleton 1 ∷ (0 ∷ 1 ∷ []) ∷ []) n []

abbrev holding : ℕ → Condition
holding n = singleton (singleton (record { holds = true; fact = n }))

abbrev leading : ℕ → Action
leading n =
    record {
      cost = 0;
      precondition = [];
      effects = singleton (record { condition = []; adds = facts_of n; deletes = facts_of (both - n) });
    }

abbrev rule : Kind → Preference
rule k = record { kind = k; hard = false; weight = 1; first = holding 0; second = cond (two_sided k) (holding 1) [] }

abbrev small : Kind → ℕ → Task
small k n =
    record {
      facts = 2;
      start = facts_of n;
      goal = [];
      actions = map leading (neither ∷ φ ∷ ψ ∷ both ∷ []);
      preferences = singleton (rule k);
    }

-- a rule of kind k, from state n on, by a plan
abbrev outcome : Kind → ℕ → List ℕ → Outcome
outcome k n p = cond (is_met (small k n) p (rule k)) met missed

-- The belt: fact 0 is flint on it, fact 1 amber
abbrev charging : ℕ → ℕ → ℕ → Action
charging c added deleted =
    record { cost = c; precondition = []; effects = singleton (record { condition = []; adds = singleton added; deletes = singleton deleted }) }

abbrev lacking_amber : Condition
lacking_amber = singleton (singleton (record { holds = false; fact = 1 }))

abbrev pub belt_task : Task
belt_task =
    record {
      facts = 2;
      start = singleton 1;
      goal = lacking_amber;
      actions = charging 3 0 1 ∷ charging 1 1 0 ∷ [];
      preferences =
          record { kind = always; hard = false; weight = 5; first = lacking_amber; second = [] }
          ∷ record { kind = sometime; hard = false; weight = 7; first = holding 0; second = [] }
          ∷ [];
    }

-- one effect that adds and deletes fact 0
abbrev adds_and_deletes : Action
adds_and_deletes = record { cost = 0; precondition = []; effects = singleton (record { condition = []; adds = singleton 0; deletes = singleton 0 }) }

abbrev pub examples : List Example
examples =
    example "a" (outcome always neither []) missed
    ∷ example "b" (outcome sometime φ []) met
    ∷ example "c" (outcome at_end φ (neither ∷ [])) missed
    ∷ example "d" (outcome at_most_once φ (φ ∷ neither ∷ [])) met
    ∷ example "e" (outcome at_most_once φ (neither ∷ φ ∷ [])) missed
    ∷ example "f" (outcome at_most_once neither (neither ∷ [])) met
    ∷ example "g" (outcome sometime_before both (neither ∷ [])) missed
    ∷ example "h" (outcome sometime_before ψ (φ ∷ [])) met
    ∷ example "i" (outcome sometime_after neither (both ∷ [])) met
    ∷ example "j" (outcome sometime_after φ (ψ ∷ [])) met
    ∷ example "k" (metric_of (metric belt_task (singleton 0))) (metric_of 8)
    ∷ example "l" (cond (after (λ n. false) adds_and_deletes 0) held lacking) held
    ∷ []

pub as_said : map (λ (e : Example). e.given) examples ≡ map (λ (e : Example). e.said) examples
as_said = refl
