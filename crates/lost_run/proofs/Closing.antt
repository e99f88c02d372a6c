-- The next rule closed.
use mathlib.Core.Path.{◌≡◌, sym, ap, ◌∙◌}
use mathlib.Core.Bool.{Bool, true, false, not, cond, ◌&&◌, ◌||◌}
use Prim.Native.Nat.{ℕ, ◌+◌, ◌*◌}
use lib.Dec.{eqb}
use Rattle.std.specs.Prelude.{Some, None}
use Rattle.lost_run.specs.Run.{closed_by}
use Rattle.lost_run.specs.declared.rules.Rule.{Rule}
use Rattle.lost_run.specs.declared.taking.Place.{Place}

-- by the number n of the action that closes rule x
module _ (x : Rule) (A j : ℕ) (p : Place) (n : ℕ) (e : n ≡ A + cond x.met 1 2 + 2 * p.closed) where
  abbrev test : ℕ → Bool
  test m = eqb j m && (not x.hard || x.met)

  abbrev to : ℕ → Place
  to a = record { state = p.state; cost = p.cost + a; running = p.running; closed = p.closed + 1 }

  pub stays : test n ≡ false → None ≡ closed_by x A j p
  stays h = ap (λ (b : Bool). cond b (Some (to (cond x.met 0 x.weight))) None) (sym (ap test (sym e) ∙ h))

  pub closes : test n ≡ true → (a : ℕ) → a ≡ cond x.met 0 x.weight → Some (to a) ≡ closed_by x A j p
  closes h a f =
      ap (λ (m : ℕ). Some (to m)) f ∙ ap (λ (b : Bool). cond b (Some (to (cond x.met 0 x.weight))) None) (sym (ap test (sym e) ∙ h))
