-- The mark that opens a preference gives its kind, and whether it is hard.
use mathlib.Core.Path.{◌≡◌, refl}
use mathlib.Core.Bool.{Bool, true, false, not, cond}
use mathlib.Core.List.{[], ◌∷◌}
use Prim.Native.Nat.{ℕ, ◌+◌, ◌-◌, ◌≤◌}
use native.Mathlib.Omega.{arith}
use lib.Dec.{leb, eqb, eqb→eq, leb→le}
use Rattle.task.specs.Marks.{ALWAYS, HARD}
use Rattle.lists.specs.Lists.{filter, range}
use Rattle.meaning.specs.Task.{Kind}
use Rattle.task.specs.TaskRows.{Row, kind_mark, opening_mark}
use Rattle.task.specs.File.{opens_hard, soft_mark}
use Rattle.lists.proofs.Tests.{as_true, as_false}
use Rattle.task.proofs.Passing.{kind_passes}

-- of all bytes, the marks that open a hard preference
pub hard_marks : filter opens_hard (range 0 256) ≡ 26 ∷ 27 ∷ 28 ∷ 29 ∷ 30 ∷ 31 ∷ 33 ∷ 34 ∷ []
hard_marks = refl

-- The mark of a kind, hard or soft, read back

pub soft_back : (h : Bool) (k : Kind) → soft_mark (opening_mark h k) ≡ kind_mark k
soft_back true k =
    eqb→eq (soft_mark (kind_mark k + HARD)) (kind_mark k)
    (kind_passes (λ (x : Row). eqb (soft_mark (x.mark + HARD)) x.mark) (λ v. tt) k 0)
soft_back false k =
    eqb→eq (soft_mark (kind_mark k)) (kind_mark k) (kind_passes (λ (x : Row). eqb (soft_mark x.mark) x.mark) (λ v. tt) k 0)

pub hard_back : (h : Bool) (k : Kind) → opens_hard (opening_mark h k) ≡ h
hard_back true k = as_true (opens_hard (kind_mark k + HARD)) (kind_passes (λ (x : Row). opens_hard (x.mark + HARD)) (λ v. tt) k 0)
hard_back false k = as_false (opens_hard (kind_mark k)) (kind_passes (λ (x : Row). not (opens_hard x.mark)) (λ v. tt) k 0)

-- a mark that stands for a kind, hard or soft, is that kind's
pub mark_from : (m : ℕ) (k : Kind) → soft_mark m ≡ kind_mark k → m ≡ opening_mark (opens_hard m) k
mark_from m k = go (opens_hard m)
  where
    go : (h : Bool) → cond h (m - HARD) m ≡ kind_mark k → m ≡ opening_mark h k
    go true e =
        let low : ALWAYS ≤ kind_mark k = leb→le ALWAYS (kind_mark k) (kind_passes (λ (x : Row). leb ALWAYS x.mark) (λ v. tt) k 0) in
        omega arith
    go false e = e
