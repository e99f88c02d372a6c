-- A task as document 01 describes it.
use Rattle.std.specs.Prelude.{Bool, true, false, ◌&&◌, List, ℕ, ltb}
use Rattle.lists.specs.Lists.{all}

-- the last two have so many steps' time
pub data Kind : Type 0 where
  always sometime at_end at_most_once sometime_before sometime_after : Kind
  within always_within : ℕ → Kind

-- HOLDS or LACKS a fact
pub record Literal : Type 0 where
  pub holds : Bool
  pub fact : ℕ

abbrev pub Clause : Type 0
Clause = List Literal

abbrev pub Condition : Type 0
Condition = List Clause

pub record Effect : Type 0 where
  pub condition : Condition
  pub adds : List ℕ
  pub deletes : List ℕ

pub record Action : Type 0 where
  pub cost : ℕ
  pub precondition : Condition
  pub effects : List Effect

-- φ is first; ψ, where the kind has one, is second. A plan that misses a hard one does not solve
pub record Preference : Type 0 where
  pub kind : Kind
  pub hard : Bool
  pub weight : ℕ
  pub first : Condition
  pub second : Condition

pub record Task : Type 0 where
  pub facts : ℕ
  pub start : List ℕ
  pub goal : Condition
  pub actions : List Action
  pub preferences : List Preference

-- the kinds that have ψ
abbrev pub two_sided : Kind → Bool
two_sided always = false
two_sided sometime = false
two_sided at_end = false
two_sided at_most_once = false
two_sided sometime_before = true
two_sided sometime_after = true
two_sided (within t) = false
two_sided (always_within t) = true

-- Every fact that a task names is below its number of facts

abbrev pub condition_below : ℕ → Condition → Bool
condition_below F = all (all (λ (l : Literal). ltb l.fact F))

abbrev pub facts_below : ℕ → List ℕ → Bool
facts_below F = all (λ (n : ℕ). ltb n F)

abbrev pub effect_below : ℕ → Effect → Bool
effect_below F e = condition_below F e.condition && facts_below F e.adds && facts_below F e.deletes

abbrev pub action_below : ℕ → Action → Bool
action_below F a = condition_below F a.precondition && all (effect_below F) a.effects

abbrev pub preference_below : ℕ → Preference → Bool
preference_below F p = condition_below F p.first && condition_below F p.second

abbrev pub well_formed : Task → Bool
well_formed t =
    facts_below t.facts t.start
    && condition_below t.facts t.goal
    && all (action_below t.facts) t.actions
    && all (preference_below t.facts) t.preferences
