-- Writing the one spelling twice changes nothing.
use mathlib.Core.Path.{◌≡◌, refl, ap₂}
use mathlib.Core.List.{List, [], ◌∷◌, map}
use Prim.Native.Nat.{ℕ}
use lib.Dec.{eqb}
use Rattle.lists.specs.Lists.{range}
use Rattle.meaning.specs.Task.{Condition, Effect, Action, Preference, Task}
use Rattle.canonical.specs.Canonical.{same_literal, literals, canonical_clause, canonical_facts, canonical_condition, canonical_effect, canonical_action}
use Rattle.canonical.specs.Canonical.{canonical_preference, canonical}
use Rattle.canonical.proofs.InOrder.{eqb_tells, literal_tells, in_order_twice}

map_twice : {A : Type 0} (f : A → A) → ((x : A) → f (f x) ≡ f x) → (xs : List A) → map f (map f xs) ≡ map f xs
map_twice f h [] = refl
map_twice f h (x ∷ xs) = ap₂ ◌∷◌ (h x) (map_twice f h xs)

module _ (F : ℕ) where
  condition_twice : (c : Condition) → canonical_condition F (canonical_condition F c) ≡ canonical_condition F c
  condition_twice = map_twice (canonical_clause F) (in_order_twice same_literal literal_tells (literals F))

  facts_twice : (ns : List ℕ) → canonical_facts F (canonical_facts F ns) ≡ canonical_facts F ns
  facts_twice = in_order_twice eqb eqb_tells (range 0 F)

  effect_twice : (e : Effect) → canonical_effect F (canonical_effect F e) ≡ canonical_effect F e
  effect_twice e = λ i. record {
    condition = condition_twice e.condition i;
    adds = facts_twice e.adds i;
    deletes = facts_twice e.deletes i;
  }

  action_twice : (a : Action) → canonical_action F (canonical_action F a) ≡ canonical_action F a
  action_twice a = λ i. record {
    cost = a.cost;
    precondition = condition_twice a.precondition i;
    effects = map_twice (canonical_effect F) effect_twice a.effects i;
  }

  preference_twice : (q : Preference) → canonical_preference F (canonical_preference F q) ≡ canonical_preference F q
  preference_twice q = λ i. record {
    kind = q.kind;
    hard = q.hard;
    weight = q.weight;
    first = condition_twice q.first i;
    second = condition_twice q.second i;
  }

-- for any task, well formed or not
pub canonical_twice : (t : Task) → canonical (canonical t) ≡ canonical t
unfolding canonical
canonical_twice t = λ i. record {
  facts = t.facts;
  start = t.start;
  goal = condition_twice t.facts t.goal i;
  actions = map_twice (canonical_action t.facts) (action_twice t.facts) t.actions i;
  preferences = map_twice (canonical_preference t.facts) (preference_twice t.facts) t.preferences i;
}
