-- A row that is taken where its value is allowed.
use mathlib.Core.Path.{◌≡◌, sym, subst}
use mathlib.Core.Bool.{Bool, true, false}
use Rattle.std.specs.Prelude.{Option, MatchOption}
use Rattle.std.specs.Bool.{then_some}
use Prim.Native.Nat.{ℕ}
use Rattle.task.specs.TaskRows.{Row}
use Rattle.task.specs.Answers.{Follows}
use Rattle.task.specs.declared.Progress.{Progress}

pub took : (v b : Bool) (w : Progress) (n : ℕ) (x : Row) (p : Progress) (r : Option Progress) → r ≡ then_some b p → b ≡ v → Follows w n x p
    → MatchOption r (v ≡ false) (λ q. (v ≡ true) × Follows w n x q)
took v true w n x p r is e f = subst (λ s. MatchOption s (v ≡ false) (λ q. (v ≡ true) × Follows w n x q)) (sym is) (sym e, f)
took v false w n x p r is e f = subst (λ s. MatchOption s (v ≡ false) (λ q. (v ≡ true) × Follows w n x q)) (sym is) (sym e)
