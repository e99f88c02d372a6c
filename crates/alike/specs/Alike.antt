-- Two tasks that mean the same, part by part, whatever facts they count and however they are spelled.
use Rattle.std.specs.Prelude.{◌≡◌, List, ℕ}
use Rattle.meaning.specs.Task.{Condition, Action, Preference, Task}
use Rattle.meaning.specs.Meaning.{State, is_true, opening, after, cost, metric, utility}
use Rattle.meaning.specs.Verdict.{verdict, met_set}
use Rattle.alike.specs.Each.{Each}

-- true in the same states
abbrev pub AlikeCondition : Condition → Condition → Type 0
AlikeCondition c d = (σ : State) → is_true σ c ≡ is_true σ d

-- from every state the one leads where the other leads, at the same cost
pub record AlikeAction (a b : Action) : Type 0 where
  pub cost : a.cost ≡ b.cost
  pub precondition : AlikeCondition a.precondition b.precondition
  pub leads : (σ : State) → after σ a ≡ after σ b

pub record AlikePreference (q r : Preference) : Type 0 where
  pub kind : q.kind ≡ r.kind
  pub hard : q.hard ≡ r.hard
  pub weight : q.weight ≡ r.weight
  pub first : AlikeCondition q.first r.first
  pub second : AlikeCondition q.second r.second

pub record Alike (s t : Task) : Type 0 where
  pub start : opening s ≡ opening t
  pub goal : AlikeCondition s.goal t.goal
  pub actions : Each AlikeAction s.actions t.actions
  pub preferences : Each AlikePreference s.preferences t.preferences

-- a plan gets the same verdict, cost, metric and utility, and meets the same preferences, whether it solves or not
pub record JudgedAlike (s t : Task) (p : List ℕ) : Type 0 where
  pub verdicts : verdict s p ≡ verdict t p
  pub costs : cost s p ≡ cost t p
  pub metrics : metric s p ≡ metric t p
  pub utilities : utility s p ≡ utility t p
  pub met : met_set s p ≡ met_set t p
