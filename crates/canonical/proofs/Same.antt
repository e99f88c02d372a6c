-- The one spelling of two tasks is the same exactly when they differ only in order and repeats, part by part.
use mathlib.Core.Path.{◌≡◌, refl, sym, ◌∙◌, subst}
use mathlib.Core.Logic.{◌↔◌}
use mathlib.Core.List.{List, map}
use Prim.Native.Nat.{ℕ}
use lib.Dec.{T, eqb}
use Rattle.lists.specs.Lists.{range}
use Rattle.meaning.specs.Task.{Condition, Effect, Action, Preference, Task, condition_below, effect_below, action_below, preference_below, well_formed}
use Rattle.lists.proofs.Tests.{tests}
use Rattle.task.proofs.Pieces.{literals_ok}
use Rattle.alike.proofs.Each.{each_map, each_common, each_mapped}
use Rattle.canonical.specs.Canonical.{same_literal, literals, canonical_clause, canonical_facts, canonical_condition, canonical_effect, canonical_action}
use Rattle.canonical.specs.Canonical.{canonical_preference, canonical}
use Rattle.canonical.specs.SameSpelling.{SameMembers, SameCondition, SameEffect, SameAction, SamePreference, SameSpelling}
use Rattle.canonical.proofs.Members.{same_common}
use Rattle.canonical.proofs.InOrder.{eqb_tells, literal_tells, facts_covered, literals_covered, in_order_members, in_order_same}

-- The spelling of a part is the same part

module _ (F : ℕ) where
  condition_kept : (c : Condition) → T (condition_below F c) → SameCondition c (canonical_condition F c)
  condition_kept =
      each_mapped SameMembers (literals_ok F) (canonical_clause F)
      (λ c t. in_order_members same_literal literal_tells (literals F) c (literals_covered F c t))

  effect_kept : (e : Effect) → T (effect_below F e) → SameEffect e (canonical_effect F e)
  effect_kept e t =
      record {
        condition = condition_kept e.condition (search tests);
        adds = in_order_members eqb eqb_tells (range 0 F) e.adds (facts_covered F e.adds (search tests));
        deletes = in_order_members eqb eqb_tells (range 0 F) e.deletes (facts_covered F e.deletes (search tests));
      }

  action_kept : (a : Action) → T (action_below F a) → SameAction a (canonical_action F a)
  action_kept a t =
      record {
        cost = refl;
        precondition = condition_kept a.precondition (search tests);
        effects = each_mapped SameEffect (effect_below F) (canonical_effect F) effect_kept a.effects (search tests);
      }

  preference_kept : (q : Preference) → T (preference_below F q) → SamePreference q (canonical_preference F q)
  preference_kept q t =
      record {
        kind = refl;
        hard = refl;
        weight = refl;
        first = condition_kept q.first (search tests);
        second = condition_kept q.second (search tests);
      }

-- From the same parts the same spelling

module _ (F : ℕ) where
  condition_same : (c d : Condition) → SameCondition c d → canonical_condition F c ≡ canonical_condition F d
  condition_same = each_map SameMembers (canonical_clause F) (canonical_clause F) (in_order_same same_literal literal_tells (literals F))

  facts_same : (ns ms : List ℕ) → SameMembers ns ms → canonical_facts F ns ≡ canonical_facts F ms
  facts_same = in_order_same eqb eqb_tells (range 0 F)

  effect_same : (e f : Effect) → SameEffect e f → canonical_effect F e ≡ canonical_effect F f
  effect_same e f p = λ i. record {
    condition = condition_same e.condition f.condition p.condition i;
    adds = facts_same e.adds f.adds p.adds i;
    deletes = facts_same e.deletes f.deletes p.deletes i;
  }

  action_same : (a b : Action) → SameAction a b → canonical_action F a ≡ canonical_action F b
  action_same a b p = λ i. record {
    cost = p.cost i;
    precondition = condition_same a.precondition b.precondition p.precondition i;
    effects = each_map SameEffect (canonical_effect F) (canonical_effect F) effect_same a.effects b.effects p.effects i;
  }

  preference_same : (q r : Preference) → SamePreference q r → canonical_preference F q ≡ canonical_preference F r
  preference_same q r p = λ i. record {
    kind = p.kind i;
    hard = p.hard i;
    weight = p.weight i;
    first = condition_same q.first r.first p.first i;
    second = condition_same q.second r.second p.second i;
  }

-- Parts that stand so to a third

condition_common : (c d k : Condition) → SameCondition c k → SameCondition d k → SameCondition c d
condition_common = each_common SameMembers same_common

effect_common : (e f g : Effect) → SameEffect e g → SameEffect f g → SameEffect e f
effect_common e f g p q =
    record {
      condition = condition_common e.condition f.condition g.condition p.condition q.condition;
      adds = same_common e.adds f.adds g.adds p.adds q.adds;
      deletes = same_common e.deletes f.deletes g.deletes p.deletes q.deletes;
    }

action_common : (a b c : Action) → SameAction a c → SameAction b c → SameAction a b
action_common a b c p q =
    record {
      cost = p.cost ∙ sym q.cost;
      precondition = condition_common a.precondition b.precondition c.precondition p.precondition q.precondition;
      effects = each_common SameEffect effect_common a.effects b.effects c.effects p.effects q.effects;
    }

preference_common : (a b c : Preference) → SamePreference a c → SamePreference b c → SamePreference a b
preference_common a b c p q =
    record {
      kind = p.kind ∙ sym q.kind;
      hard = p.hard ∙ sym q.hard;
      weight = p.weight ∙ sym q.weight;
      first = condition_common a.first b.first c.first p.first q.first;
      second = condition_common a.second b.second c.second p.second q.second;
    }

spelling_common : (s t u : Task) → SameSpelling s u → SameSpelling t u → SameSpelling s t
spelling_common s t u p q =
    record {
      facts = p.facts ∙ sym q.facts;
      start = p.start ∙ sym q.start;
      goal = condition_common s.goal t.goal u.goal p.goal q.goal;
      actions = each_common SameAction action_common s.actions t.actions u.actions p.actions q.actions;
      preferences =
          each_common SamePreference preference_common s.preferences t.preferences u.preferences p.preferences q.preferences;
    }

-- The task

pub same_canonical : (s t : Task) → SameSpelling s t → canonical s ≡ canonical t
unfolding canonical
same_canonical s t e =
    (λ i. record {
      facts = s.facts;
      start = e.start i;
      goal = condition_same s.facts s.goal t.goal e.goal i;
      actions = each_map SameAction (canonical_action s.facts) (canonical_action s.facts) (action_same s.facts)
          s.actions t.actions e.actions i;
      preferences = each_map SamePreference (canonical_preference s.facts) (canonical_preference s.facts) (preference_same s.facts)
          s.preferences t.preferences e.preferences i;
    })
    ∙ λ i. record {
      facts = e.facts i;
      start = t.start;
      goal = canonical_condition (e.facts i) t.goal;
      actions = map (canonical_action (e.facts i)) t.actions;
      preferences = map (canonical_preference (e.facts i)) t.preferences;
    }

pub canonical_kept : (t : Task) → T (well_formed t) → SameSpelling t (canonical t)
unfolding canonical
canonical_kept t w =
    record {
      facts = refl;
      start = refl;
      goal = condition_kept t.facts t.goal (search tests);
      actions = each_mapped SameAction (action_below t.facts) (canonical_action t.facts) (action_kept t.facts) t.actions (search tests);
      preferences = each_mapped SamePreference (preference_below t.facts) (canonical_preference t.facts) (preference_kept t.facts)
          t.preferences (search tests);
    }

pub one_spelling : (s t : Task) → T (well_formed s) → T (well_formed t) → (canonical s ≡ canonical t) ↔ SameSpelling s t
one_spelling s t v w =
    (λ e. spelling_common s t (canonical t) (subst (SameSpelling s) e (canonical_kept s v)) (canonical_kept t w), same_canonical s t)
