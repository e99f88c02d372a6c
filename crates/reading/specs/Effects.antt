-- How an action's effects are gathered, and applied.
use Rattle.std.specs.Prelude.{◌≡◌, Bool, cond, ◌&&◌, List, [], ◌∷◌, ◌++◌, ℕ, ◌+◌, ◌≤◌, T, leb, eqb, length, drop}
use Rattle.task.specs.Marks.{EFFECT, DELETE, CLAUSE}
use Rattle.lists.specs.Lists.{all, concat_map}
use Rattle.meaning.specs.Task.{Effect, Action}
use Rattle.task.specs.TaskRows.{Row, effect_rows}
use Rattle.meaning.specs.Meaning.{State as Facts, is_true, after}
use Rattle.meaning.specs.Literals.{looked_at, looked_effects}
use Rattle.task.specs.File.{paired}
use Rattle.task.specs.Rows.{between, run_at, Stops}
use Rattle.task.specs.Limits.{MAX_FACTS}
use Rattle.meaning.specs.Task.{effect_below}
use Rattle.state.specs.Member.{member, single, union}
use Rattle.state.specs.declared.State.{State}
use Rattle.reading.specs.declared.effects.Gathered.{Gathered}
use Rattle.reading.specs.declared.effects.Applied.{Applied}
use Rattle.reading.specs.declared.effects.Changed.{Changed}

abbrev pub marked : Bool → Facts → ℕ → Facts
marked b f n = cond b (union f (single n)) f

-- EFFECT to DELETE stand among an action's effects
abbrev pub in_effects : ℕ → Bool
in_effects m = leb EFFECT m && leb m DELETE

-- a set of facts, and the row after those that say so
pub record Result : Type 0 where
  pub state : Facts
  pub next : ℕ

abbrev pub result_of : Applied → Result
result_of a = record { state = member a.state; next = a.next }

abbrev pub ending : Facts → ℕ → Result
ending f i = record { state = f; next = i }

abbrev pub mark_row : Bool → Facts → Row → Facts
mark_row b f x = marked b f x.value

-- the facts of the rows of one mark from row i on
abbrev pub mark_at : ℕ → Bool → Facts → List ℕ → List ℕ → ℕ → Result
mark_at m b = run_at (mark_row b) (λ (n : ℕ). eqb n m) ending

abbrev pub all_marked : Bool → Facts → List ℕ → Facts
all_marked b f [] = f
all_marked b f (n ∷ ns) = all_marked b (marked b f n) ns

-- r is g with effect e, which stands at row i
pub record GatheredWith (s : Facts) (i : ℕ) (g : Gathered) (e : Effect) (r : Gathered) : Type 0 where
  pub adds : member r.adds ≡ all_marked (is_true s e.condition) (member g.adds) e.adds
  pub deletes : member r.deletes ≡ all_marked (is_true s e.condition) (member g.deletes) e.deletes
  pub looked : r.looked ≡ g.looked + looked_at s e.condition
  pub next : r.next ≡ i + length (effect_rows e)

-- effect e stands at row i, and no row that could be its own follows
pub record EffectAt (ms vs : List ℕ) (i : ℕ) (e : Effect) : Type 0 where
  pub rest : List Row
  pub spelled : drop i (paired ms vs) ≡ effect_rows e ++ rest
  pub stops : Stops (between CLAUSE DELETE) rest

abbrev pub SomeEffect : List ℕ → List ℕ → ℕ → Type 0
SomeEffect ms vs i = (e : Effect) × EffectAt ms vs i e

-- whichever stands there
abbrev pub Gathers : Facts → List ℕ → List ℕ → ℕ → Gathered → Gathered → Type 0
Gathers s ms vs i g r = (e : Effect) → EffectAt ms vs i e → GatheredWith s i g e r

abbrev pub state_of : Changed → State
state_of r = record { low = r.low; high = r.high }

-- r is what the effects of an action come to
pub record ChangedBy (s : Facts) (a : Action) (r : Changed) : Type 0 where
  pub state : member (state_of r) ≡ after s a
  pub looked : r.looked ≡ looked_effects s a.effects

-- the effects of a stand from row i on, and name facts that a state may have
pub record EffectsAt (ms vs : List ℕ) (i : ℕ) (a : Action) : Type 0 where
  pub facts : ℕ
  pub few : facts ≤ MAX_FACTS
  pub below : T (all (effect_below facts) a.effects)
  pub rest : List Row
  pub spelled : drop i (paired ms vs) ≡ concat_map effect_rows a.effects ++ rest
  pub stops : Stops in_effects rest

abbrev pub SomeEffects : List ℕ → List ℕ → ℕ → Type 0
SomeEffects ms vs i = (a : Action) × EffectsAt ms vs i a

-- of the action whose effects stand from row i on
abbrev pub Changes : Facts → List ℕ → List ℕ → ℕ → Changed → Type 0
Changes s ms vs i r = (a : Action) → EffectsAt ms vs i a → ChangedBy s a r
