-- One action, from what the readers give.
use mathlib.Core.Path.{◌≡◌, refl, sym, ap, ◌∙◌}
use mathlib.Core.Bool.{true, false}
use mathlib.Core.List.{List}
use Prim.Native.Nat.{ℕ, ◌+◌, ◌<◌}
use lib.ListN.{length}
use Rattle.meaning.specs.Task.{Task}
use Rattle.task.specs.Rows.{value_at}
use Rattle.meaning.specs.Meaning.{State as Facts, action_at, applies}
use Rattle.state.specs.Member.{member}
use Rattle.node_words.specs.Words.{state_of}
use Rattle.node_words.specs.declared.Packed.{Packed}
use Rattle.reading.specs.Conditions.{begin, evaluate_at}
use Rattle.reading.specs.Effects.{Changes}
use Rattle.reading.specs.declared.conditions.Evaluated.{Evaluated}
use Rattle.reading.specs.declared.effects.Changed.{Changed}
use Rattle.layout.specs.Actions.{ActionAt}
use Rattle.monitors.proofs.TaskRead.{cost_there, applying, its_effects}
use Rattle.leading.specs.Leading.{LedTo}

module _ (ms vs : List ℕ) (i : ℕ) (t : Task) (k : ℕ) (A : ActionAt ms vs i t k) (x : Packed)
    (e : Evaluated) (read : e ≡ evaluate_at (member (state_of x)) begin ms vs (i + 1)) where
  abbrev σ : Facts
  σ = member (state_of x)

  applies_so : e.holds ≡ applies t σ k
  applies_so = applying ms vs i t k A σ e read

  pub nowhere : e.holds ≡ false → applies t σ k ≡ false
  nowhere h = sym applies_so ∙ h

  pub led_to : e.holds ≡ true → (a : Changed) → Changes σ ms vs e.next a → (c link : ℕ) → i < length ms → c ≡ x.cost + value_at vs i
      → LedTo t k x link (record { low = a.low; high = a.high; cost = c; link = link })
  led_to h a moved c link within cost =
      record {
        applying = sym applies_so ∙ h;
        state = (moved (action_at t k) (its_effects ms vs i t k A σ e read)).state;
        cost = cost ∙ ap (λ (n : ℕ). x.cost + n) (cost_there ms vs i t k A within);
        linked = refl;
      }
