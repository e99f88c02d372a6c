-- What is promised of every answer.
use mathlib.Core.Path.{◌≡◌, subst, sym}
use mathlib.Core.List.{List}
use Prim.Native.Nat.{ℕ}
use Rattle.figures.specs.Week.{Answer, week_of}
use Rattle.figures.specs.Promised.{Promised}
use Rattle.figures.proofs.Weeks.{week_sound, week_fits}
use Rattle.figures.proofs.Order.{week_reordered}

pub week_promised : (b f : List ℕ) → Promised b f (week_of b f)
week_promised b f =
    record {
      sound = week_sound b f;
      fits = week_fits b f;
      any_order = λ g s y e. week_reordered f g s.same_length s.same_bytes s.reordered b y e;
    }

pub promised : (b f : List ℕ) (x : Answer) → x ≡ week_of b f → Promised b f x
promised b f x e = subst (Promised b f) (sym e) (week_promised b f)
