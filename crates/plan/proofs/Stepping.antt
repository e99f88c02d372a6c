-- One step, from what the readers give.
use mathlib.Core.Path.{◌≡◌, sym, ap, ◌∙◌}
use mathlib.Core.Bool.{true, false}
use mathlib.Core.List.{List}
use Rattle.std.specs.Prelude.{Err}
use Prim.Native.Nat.{ℕ, ◌+◌, ◌<◌}
use lib.ListN.{length}
use Rattle.meaning.specs.Task.{Task}
use Rattle.task.specs.Rows.{value_at}
use Rattle.meaning.specs.Literals.{looked_at}
use Rattle.meaning.specs.Meaning.{State as Facts, action_at, applies}
use Rattle.state.specs.Member.{member}
use Rattle.reading.specs.Conditions.{begin, evaluate_at}
use Rattle.reading.specs.Effects.{ChangedBy, Changes}
use Rattle.reading.specs.declared.conditions.Evaluated.{Evaluated}
use Rattle.reading.specs.declared.effects.Changed.{Changed}
use Rattle.layout.specs.Actions.{ActionAt}
use Rattle.plan.specs.Steps.{state_of, StepTaken, StepAnswer}
use Rattle.plan.specs.declared.steps.Position.{Position}
use Rattle.monitors.proofs.TaskRead.{cost_there, applying, looked_at_lem, its_effects}

module _ (ms vs : List ℕ) (i : ℕ) (t : Task) (k : ℕ) (A : ActionAt ms vs i t k) (p : Position)
    (e : Evaluated) (read : e ≡ evaluate_at (member (state_of p)) begin ms vs (i + 1)) where
  abbrev σ : Facts
  σ = member (state_of p)

  applies_so : e.holds ≡ applies t σ k
  applies_so = applying ms vs i t k A σ e read

  read_so : e.looked ≡ looked_at σ (action_at t k).precondition
  read_so = looked_at_lem ms vs i t k A σ e read

  pub stopped : e.holds ≡ false → StepAnswer t k p (Err (p.looked + e.looked))
  stopped false_one = (sym applies_so ∙ false_one, ap (λ (n : ℕ). p.looked + n) read_so)

  module _ (true_one : e.holds ≡ true) (a : Changed) (moved : Changes σ ms vs e.next a) where
    changed : ChangedBy σ (action_at t k) a
    changed = moved (action_at t k) (its_effects ms vs i t k A σ e read)

    pub led : (c : ℕ) → i < length ms → c ≡ p.cost + value_at vs i
        → StepTaken t k p (record { low = a.low; high = a.high; cost = c; looked = p.looked + e.looked + a.looked })
    led c within cost = record {
      applying = sym applies_so ∙ true_one;
      state = changed.state;
      cost = cost ∙ ap (λ (n : ℕ). p.cost + n) (cost_there ms vs i t k A within);
      looked = λ z. p.looked + read_so z + changed.looked z;
    }
