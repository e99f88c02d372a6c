-- The one spelling is in the agreed order, and it is the only task in that order that differs from its source only in order and repeats.
use mathlib.Core.Path.{◌≡◌, refl, sym, ap₂, ◌∙◌}
use mathlib.Core.Bool.{Bool}
use mathlib.Core.List.{List, [], ◌∷◌, map}
use Prim.Native.Nat.{ℕ}
use lib.Dec.{T, eqb}
use Rattle.lists.specs.Lists.{all, any, range}
use Rattle.meaning.specs.Task.{Literal, Clause, Condition, Effect, Action, Preference, Task, condition_below, facts_below, effect_below, action_below, preference_below}
use Rattle.meaning.specs.Task.{well_formed}
use Rattle.lists.proofs.Tests.{tests, all_map}
use Rattle.task.proofs.Pieces.{literals_ok}
use Rattle.canonical.specs.Canonical.{same_literal, literals, canonical_clause, canonical_facts, canonical_condition, canonical_effect, canonical_action}
use Rattle.canonical.specs.Canonical.{canonical_preference, canonical}
use Rattle.canonical.specs.SameSpelling.{SameSpelling}
use Rattle.canonical.specs.Agreed.{literal_rank, agreed_clause, agreed_facts, agreed_condition, agreed_effect, agreed_action, agreed_preference, agreed}
use Rattle.canonical.proofs.InOrder.{eqb_tells, literal_tells, facts_covered, literals_covered, in_order_members}
use Rattle.canonical.proofs.Rising.{filter_rising, range_rise, literals_rise, rising_unique, rank_tells}
use Rattle.canonical.proofs.Same.{same_canonical}

-- In the agreed order

module _ (F : ℕ) where
  clause_agreed : (c : Clause) → T (agreed_clause (canonical_clause F c))
  clause_agreed c = filter_rising literal_rank (λ (l : Literal). any (same_literal l) c) 0 (literals F) (literals_rise 0 F)

  facts_agreed : (ns : List ℕ) → T (agreed_facts (canonical_facts F ns))
  facts_agreed ns = filter_rising (λ (n : ℕ). n) (λ (n : ℕ). any (eqb n) ns) 0 (range 0 F) (range_rise 0 F)

  condition_agreed : (c : Condition) → T (agreed_condition (canonical_condition F c))
  condition_agreed = all_map agreed_clause (canonical_clause F) clause_agreed

  effect_agreed : (e : Effect) → T (agreed_effect (canonical_effect F e))
  effect_agreed e = search (tests, condition_agreed e.condition, facts_agreed e.adds, facts_agreed e.deletes)

  action_agreed : (a : Action) → T (agreed_action (canonical_action F a))
  action_agreed a =
      search (tests, condition_agreed a.precondition, all_map agreed_effect (canonical_effect F) effect_agreed a.effects)

  preference_agreed : (q : Preference) → T (agreed_preference (canonical_preference F q))
  preference_agreed q = search (tests, condition_agreed q.first, condition_agreed q.second)

pub canonical-agreed : (t : Task) → T (agreed (canonical t))
unfolding canonical
canonical-agreed t =
    search (
      tests,
      condition_agreed t.facts t.goal,
      all_map agreed_action (canonical_action t.facts) (action_agreed t.facts) t.actions,
      all_map agreed_preference (canonical_preference t.facts) (preference_agreed t.facts) t.preferences,
    )

-- What is in the agreed order stays

map_stays : {A : Type 0} (p q : A → Bool) (f : A → A) → ((x : A) → T (p x) → T (q x) → f x ≡ x) → (xs : List A) → T (all p xs) → T (all q xs)
    → map f xs ≡ xs
map_stays p q f h [] s t = refl
map_stays p q f h (x ∷ xs) s t = ap₂ ◌∷◌ (h x (search tests) (search tests)) (map_stays p q f h xs (search tests) (search tests))

module _ (F : ℕ) where
  clause_stays : (c : Clause) → T (literals_ok F c) → T (agreed_clause c) → canonical_clause F c ≡ c
  clause_stays c s t =
      sym (rising_unique literal_rank rank_tells 0 0 c (canonical_clause F c) t (clause_agreed F c)
      (in_order_members same_literal literal_tells (literals F) c (literals_covered F c s)))

  facts_stay : (ns : List ℕ) → T (facts_below F ns) → T (agreed_facts ns) → canonical_facts F ns ≡ ns
  facts_stay ns s t =
      sym (rising_unique (λ (n : ℕ). n) (λ n m e. e) 0 0 ns (canonical_facts F ns) t (facts_agreed F ns)
      (in_order_members eqb eqb_tells (range 0 F) ns (facts_covered F ns s)))

  condition_stays : (c : Condition) → T (condition_below F c) → T (agreed_condition c) → canonical_condition F c ≡ c
  condition_stays = map_stays (literals_ok F) agreed_clause (canonical_clause F) clause_stays

  effect_stays : (e : Effect) → T (effect_below F e) → T (agreed_effect e) → canonical_effect F e ≡ e
  effect_stays e s t = λ i. record {
    condition = condition_stays e.condition (search tests) (search tests) i;
    adds = facts_stay e.adds (search tests) (search tests) i;
    deletes = facts_stay e.deletes (search tests) (search tests) i;
  }

  action_stays : (a : Action) → T (action_below F a) → T (agreed_action a) → canonical_action F a ≡ a
  action_stays a s t = λ i. record {
    cost = a.cost;
    precondition = condition_stays a.precondition (search tests) (search tests) i;
    effects = map_stays (effect_below F) agreed_effect (canonical_effect F) effect_stays a.effects (search tests) (search tests) i;
  }

  preference_stays : (q : Preference) → T (preference_below F q) → T (agreed_preference q) → canonical_preference F q ≡ q
  preference_stays q s t = λ i. record {
    kind = q.kind;
    hard = q.hard;
    weight = q.weight;
    first = condition_stays q.first (search tests) (search tests) i;
    second = condition_stays q.second (search tests) (search tests) i;
  }

pub agreed_stays : (t : Task) → T (well_formed t) → T (agreed t) → canonical t ≡ t
unfolding canonical
agreed_stays t s h = λ i. record {
  facts = t.facts;
  start = t.start;
  goal = condition_stays t.facts t.goal (search tests) (search tests) i;
  actions = map_stays (action_below t.facts) agreed_action (canonical_action t.facts) (action_stays t.facts) t.actions
      (search tests) (search tests) i;
  preferences = map_stays (preference_below t.facts) agreed_preference (canonical_preference t.facts) (preference_stays t.facts)
      t.preferences (search tests) (search tests) i;
}

pub only_agreed : (t u : Task) → T (well_formed u) → T (agreed u) → SameSpelling t u → canonical t ≡ u
only_agreed t u w h e = same_canonical t u e ∙ agreed_stays u w h
