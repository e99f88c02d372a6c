-- What the code's values stand for, as a list is followed on marks and values that spell a task.
use Rattle.std.specs.Prelude.{◌≡◌, Bool, true, false, not, cond, ◌&&◌, ◌||◌, List, ◌∷◌, ℕ, ◌+◌, ◌*◌, ◌≤◌, ◌<◌, T, eqb, length, drop, get_or, Option, Some, None}
use Rattle.lists.specs.Lists.{concat_map}
use Rattle.meaning.specs.Task.{Preference, Task}
use Rattle.meaning.specs.Meaning.{opening, after, action_at, applies, preference_at}
use Rattle.meaning.specs.Monitor.{Monitor, accepting}
use Rattle.task.specs.TaskRows.{preference_rows}
use Rattle.task.specs.File.{paired}
use Rattle.task.specs.Spelling.{kind_spellable}
use Rattle.task.specs.Limits.{MAX_ACTIONS, MAX_PREFERENCES}
use Rattle.layout.specs.Rows.{Spells, PreferencesAt}
use Rattle.layout.specs.Actions.{Noted}
use Rattle.state.specs.Member.{member}
use Rattle.state.specs.declared.State.{State}
use Rattle.layout.specs.Counting.{AMPLE}
use Rattle.plan.specs.Steps.{MonitorsAre}
use Rattle.losses.specs.Losses.{Lost, lost, stopped, shows}
use Rattle.losses.specs.Following.{Position, first, goes, led, followed}
use Rattle.lost_run.specs.declared.Run.{Run}
use Rattle.lost_run.specs.declared.Run.TheVariants.{Made, Stopped}
use Rattle.lost_run.specs.declared.rules.Rule.{Rule}
use Rattle.lost_run.specs.declared.taking.Place.{Place}

-- Rules

-- row i opens rule q
pub record RuleAt (ms vs : List ℕ) (i : ℕ) (q : Preference) : Type 0 where
  pub rest : List Preference
  pub spelled : drop i (paired ms vs) ≡ concat_map preference_rows (q ∷ rest)
  pub spelling : T (kind_spellable q.kind)

-- r is rule q with monitor m
pub record SeenBy (q : Preference) (m : Monitor) (r : Rule) : Type 0 where
  pub hard : r.hard ≡ q.hard
  pub weight : r.weight ≡ q.weight
  pub met : r.met ≡ accepting q.kind m
  pub broken : r.broken ≡ shows q.kind m.S m.B

-- its weight where it is lost; due says that it isn't closed
abbrev pub lost_of : Rule → Bool → ℕ
lost_of r due = cond (not r.hard && r.broken && due) r.weight 0

-- entry k is the row of rule k of t
pub record Rules (ms vs rules : List ℕ) (t : Task) : Type 0 where
  pub many : length rules ≡ length t.preferences
  pub few : length rules ≤ MAX_PREFERENCES
  pub each : (k : ℕ) → k < length t.preferences → RuleAt ms vs (get_or rules k 0) (preference_at t k)

abbrev pub SomeRules : List ℕ → List ℕ → List ℕ → Type 0
SomeRules ms vs rules = (t : Task) × Rules ms vs rules t

-- Places

-- the bytes l are the monitors of p, and so many rules are closed
pub record Kept (t : Task) (l : List ℕ) (closed : ℕ) (p : Position) : Type 0 where
  pub monitors : MonitorsAre t l p.monitors
  pub same : closed ≡ p.closed

-- the place p with monitors l is position q
pub record Stands (t : Task) (l : List ℕ) (p : Place) (q : Position) : Type 0 where
  pub facts : member p.state ≡ q.facts
  pub kept : Kept t l p.closed q
  pub running : p.running ≡ q.running
  pub cost : p.cost ≡ q.cost

-- action j of a list, taken at position q
abbrev pub TakenAs : Task → List ℕ → Position → ℕ → Option Place → Type 0
TakenAs t l q j (Some p) = (goes t q j ≡ true) × Stands t l p (led t q j)
TakenAs t l q j None = goes t q j ≡ false

-- an action costs less than 2 ^ 32
abbrev pub Little : Place → Option Place → Type 0
Little p (Some q) = q.cost < p.cost + 4294967296
Little p None = Unit {0}

-- by source action k of t from p to q
pub record SourceTaken (t : Task) (k : ℕ) (p q : Place) : Type 0 where
  pub applying : applies t (member p.state) k ≡ true
  pub state : member q.state ≡ after (member p.state) (action_at t k)
  pub cost : q.cost ≡ p.cost + (action_at t k).cost
  pub running : q.running ≡ p.running
  pub closed : q.closed ≡ p.closed

abbrev pub SteppedAs : Task → ℕ → Place → Option Place → Type 0
SteppedAs t k p (Some q) = SourceTaken t k p q
SteppedAs t k p None = applies t (member p.state) k ≡ false

-- a rule can be closed from p without a number too large
pub record Payable (A : ℕ) (p : Place) : Type 0 where
  pub few : A ≤ MAX_ACTIONS
  pub cheap : p.cost < AMPLE

-- by action j where x is the next rule, of a task with A actions
abbrev pub closed_by : Rule → ℕ → ℕ → Place → Option Place
closed_by x A j p =
    cond (eqb j (A + cond x.met 1 2 + 2 * p.closed) && (not x.hard || x.met))
    (Some (record { state = p.state; cost = p.cost + cond x.met 0 x.weight; running = p.running; closed = p.closed + 1 }))
    None

-- p is a position after the end, on a task with A actions
pub record Ended (t : Task) (l : List ℕ) (A : ℕ) (p : Place) (q : Position) : Type 0 where
  pub stands : Stands t l p q
  pub over : q.running ≡ false
  pub actions : A ≡ length t.actions

-- Whole lists

-- the rows of the actions and of the rules of t, the first of which is row `at`
pub record Setting (ms vs : List ℕ) (at : ℕ) (starts rules : List ℕ) (t : Task) : Type 0 where
  pub spells : Spells ms vs t
  pub preferences : PreferencesAt t ms vs at
  pub all_actions : length starts ≡ length t.actions
  pub few_actions : length starts ≤ MAX_ACTIONS
  pub actions : Noted t starts
  pub all_rules : Rules ms vs rules t

-- s is the opening state of t
abbrev pub Opens : State → Task → Type 0
Opens s t = member s ≡ opening t

-- the rows spell t, which has n rules
pub record Source (ms vs : List ℕ) (n : ℕ) (t : Task) : Type 0 where
  pub spells : Spells ms vs t
  pub many : n ≡ length t.preferences

abbrev pub run_as : Run → Lost
run_as (Made x) = lost x.cost x.lost
run_as (Stopped i) = stopped i

abbrev pub RunAs : Task → List ℕ → Run → Type 0
RunAs t list r = run_as r ≡ followed t (first t) 0 list
