-- What one step, the end of a plan and a whole run give, on marks and values that spell a task.
use Rattle.std.specs.Prelude.{◌≡◌, Bool, true, false, not, cond, ◌||◌, List, [], map, ℕ, ◌+◌, ◌≤◌, ◌<◌, length, get_or, Result, Ok, Err}
use Rattle.lists.specs.Lists.{all, first_failing}
use Rattle.meaning.specs.Task.{Task, Preference}
use Rattle.meaning.specs.Meaning.{State as Facts, is_true, opening, after, action_at, applies, seen, preference_at}
use Rattle.meaning.specs.Literals.{looked_at, looked_effects, looked_from, literals}
use Rattle.meaning.specs.Monitor.{Monitor, fresh, step, accepting}
use Rattle.meaning.specs.Verdict.{verdict}
use Rattle.state.specs.Member.{member}
use Rattle.state.specs.declared.State.{State}
use Rattle.plan.specs.Walked
use Rattle.plan.specs.Walked.{Walk, solved, goal_missed, rule_missed, given, without_amounts}
use Rattle.plan.specs.Answers.{given_as}
use Rattle.monitor.specs.Packed.{monitor_at}
use Rattle.monitors.specs.Monitors.{MOST_LOOKED}
use Rattle.layout.specs.Counting.{AMPLE}
use Rattle.layout.specs.Rows.{Spells, PreferencesAt}
use Rattle.layout.specs.Actions.{Noted}
use Rattle.plan.specs.declared.Walked as Declared
use Rattle.plan.specs.declared.steps.Places.{Places}
use Rattle.plan.specs.declared.steps.Position.{Position}
use Rattle.task.specs.Limits.{MAX_PREFERENCES}

abbrev pub state_of : Position → State
state_of p = record { low = p.low; high = p.high }

-- positions whose amounts leave room for one step more
pub record Roomy (p : Position) : Type 0 where
  pub cost : p.cost < AMPLE
  pub looked : p.looked < AMPLE

-- One step

-- by action k of t from p to q
pub record StepTaken (t : Task) (k : ℕ) (p q : Position) : Type 0 where
  pub applying : applies t (member (state_of p)) k ≡ true
  pub state : member (state_of q) ≡ after (member (state_of p)) (action_at t k)
  pub cost : q.cost ≡ p.cost + (action_at t k).cost
  pub looked : q.looked ≡ p.looked + looked_at (member (state_of p)) (action_at t k).precondition + looked_effects (member (state_of p)) (action_at t k).effects

abbrev pub StepAnswer : Task → ℕ → Position → Result Position ℕ → Type 0
StepAnswer t k p (Ok q) = StepTaken t k p q
StepAnswer t k p (Err n) =
    (applies t (member (state_of p)) k ≡ false) × (n ≡ p.looked + looked_at (member (state_of p)) (action_at t k).precondition)

-- a step costs less than 2 ^ 32, and looks at no more literals than two conditions have
abbrev pub Little : Position → Result Position ℕ → Type 0
Little p (Ok q) = (q.cost < p.cost + 4294967296) × (q.looked ≤ p.looked + MOST_LOOKED)
Little p (Err n) = Unit {0}

-- The end of a plan

-- the preferences of t and its goal's condition stand at these places
pub record Placed (ms vs : List ℕ) (x : Places) (t : Task) : Type 0 where
  pub spells : Spells ms vs t
  pub preferences : PreferencesAt t ms vs x.preferences
  pub goal : x.goal ≡ length t.start + 1

-- a monitor for each preference
abbrev pub Monitors : Type 0
Monitors = Preference → Monitor

-- a preference is met, by monitors that have seen all states
abbrev pub is_accepting : Monitors → Preference → Bool
is_accepting μ q = accepting q.kind (μ q)

-- it is soft or met
abbrev pub is_safe : Monitors → Preference → Bool
is_safe μ q = not q.hard || is_accepting μ q

-- the verdict on a plan whose goal holds, of cost c, by such monitors
abbrev pub solved_by : Task → Monitors → ℕ → Walk
solved_by t μ c =
    cond (all (is_safe μ) t.preferences)
    (solved c (λ (k : ℕ). get_or (map (is_accepting μ) t.preferences) k false))
    (rule_missed (first_failing (is_safe μ) t.preferences))

-- the verdict after the last step, in the last state σ, by monitors that have seen those before it
abbrev pub last_verdict : Task → Facts → Monitors → ℕ → Walk
last_verdict t σ μ c =
    cond (is_true σ t.goal) (solved_by t (λ (q : Preference). step q.kind true (μ q) (seen q σ)) c) goal_missed

-- the byte of each monitor
abbrev pub MonitorsAre : Task → List ℕ → Monitors → Type 0
MonitorsAre t l μ = (j : ℕ) → j < length t.preferences → monitor_at l j ≡ μ (preference_at t j)

-- the places of t, and the monitors μ of its preferences in the bytes l
pub record End (ms vs : List ℕ) (x : Places) (l : List ℕ) (t : Task) (μ : Monitors) : Type 0 where
  pub placed : Placed ms vs x t
  pub monitors : MonitorsAre t l μ

abbrev pub EndAnswer : Task → Monitors → Position → Declared.Walked → Type 0
EndAnswer t μ p r = given_as r ≡ given (last_verdict t (member (state_of p)) μ p.cost) (p.looked + looked_from t (member (state_of p)) [])

-- A whole plan

-- the verdict on a plan, and the literals that it takes
abbrev pub walked_on : Task → List ℕ → Walked.Walked
walked_on t plan = given (without_amounts (verdict t plan)) (literals t plan)

-- 16 monitors that have seen no state
pub record AllFresh (l : List ℕ) : Type 0 where
  pub sixteen : length l ≡ MAX_PREFERENCES
  pub seen_none : (k : ℕ) → monitor_at l k ≡ fresh

-- the places of t, the rows of its actions, and its opening state
pub record Start (ms vs : List ℕ) (x : Places) (starts : List ℕ) (s : State) (t : Task) : Type 0 where
  pub placed : Placed ms vs x t
  pub all_actions : length starts ≡ length t.actions
  pub actions : Noted t starts
  pub opens : member s ≡ opening t

abbrev pub PlanAnswer : Task → List ℕ → Declared.Walked → Type 0
PlanAnswer t plan r = given_as r ≡ walked_on t plan
