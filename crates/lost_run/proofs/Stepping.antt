-- A source action, by one step of a plan.
use mathlib.Core.Path.{◌≡◌, refl, subst}
use mathlib.Core.Bool.{false}
use Prim.Native.Nat.{ℕ, ◌+◌, ◌<◌}
use Rattle.std.specs.Prelude.{Result, Ok, Err}
use Rattle.meaning.specs.Task.{Task}
use Rattle.meaning.specs.Meaning.{applies}
use Rattle.state.specs.Member.{member}
use Rattle.plan.specs.Steps
use Rattle.plan.specs.Steps.{state_of, StepTaken, StepAnswer}
use Rattle.plan.specs.declared.steps.Position.{Position}
use Rattle.lost_run.specs.Run.{SourceTaken}
use Rattle.lost_run.specs.declared.taking.Place.{Place}

-- the position of a plan at p; literals are not counted
abbrev pub position_of : Place → Position
position_of p = record { low = p.state.low; high = p.state.high; cost = p.cost; looked = 0 }

module _ (p : Place) (x : Result Position ℕ) where
  abbrev pub to : Position → Place
  to y = record { state = state_of y; cost = y.cost; running = p.running; closed = p.closed }

  pub little : (y : Position) → x ≡ Ok y → Steps.Little (position_of p) x → y.cost < p.cost + 4294967296
  little y e h = (subst (Steps.Little (position_of p)) e h).0

  pub stepped : (t : Task) (k : ℕ) (y : Position) → x ≡ Ok y → StepAnswer t k (position_of p) x → SourceTaken t k p (to y)
  stepped t k y e h =
      let s : StepTaken t k (position_of p) y = subst (StepAnswer t k (position_of p)) e h in
      record { applying = s.applying; state = s.state; cost = s.cost; running = refl; closed = refl }

  pub stops : (t : Task) (k n : ℕ) → x ≡ Err n → StepAnswer t k (position_of p) x → applies t (member p.state) k ≡ false
  stops t k n e h = (subst (StepAnswer t k (position_of p)) e h).0
