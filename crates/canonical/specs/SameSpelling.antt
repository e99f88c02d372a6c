-- Two tasks that differ only in the order and the repeats of literals in clauses, of ADD rows and of DELETE rows. F, the opening
-- facts, costs, kinds, hardness and weights are equal; clauses, effects, actions and preferences stand place by place, so that A and P are equal
-- too. N is free.
use Rattle.std.specs.Prelude.{◌≡◌, ◌↔◌, ◌⊎◌, List, [], ◌∷◌}
use Rattle.meaning.specs.Task.{Condition, Effect, Action, Preference, Task}
use Rattle.alike.specs.Each.{Each}

abbrev pub Member : {A : Type 0} → A → List A → Type 0
Member x [] = ⊥
Member x (y ∷ ys) = (x ≡ y) ⊎ Member x ys

-- whatever their order, and however often each stands
abbrev pub SameMembers : {A : Type 0} → List A → List A → Type 0
SameMembers {A} xs ys = (x : A) → Member x xs ↔ Member x ys

abbrev pub SameCondition : Condition → Condition → Type 0
SameCondition = Each SameMembers

pub record SameEffect (e f : Effect) : Type 0 where
  pub condition : SameCondition e.condition f.condition
  pub adds : SameMembers e.adds f.adds
  pub deletes : SameMembers e.deletes f.deletes

pub record SameAction (a b : Action) : Type 0 where
  pub cost : a.cost ≡ b.cost
  pub precondition : SameCondition a.precondition b.precondition
  pub effects : Each SameEffect a.effects b.effects

pub record SamePreference (q r : Preference) : Type 0 where
  pub kind : q.kind ≡ r.kind
  pub hard : q.hard ≡ r.hard
  pub weight : q.weight ≡ r.weight
  pub first : SameCondition q.first r.first
  pub second : SameCondition q.second r.second

pub record SameSpelling (s t : Task) : Type 0 where
  pub facts : s.facts ≡ t.facts
  pub start : s.start ≡ t.start
  pub goal : SameCondition s.goal t.goal
  pub actions : Each SameAction s.actions t.actions
  pub preferences : Each SamePreference s.preferences t.preferences
