-- The claim holds for every task without preferences and every limit from 1 on.
use mathlib.Core.Path.{◌≡◌}
use mathlib.Core.List.{[]}
use Prim.Native.Nat.{ℕ, ◌≤◌}
use lib.Dec.{T}
use Rattle.meaning.specs.Task.{Task, well_formed}
use Rattle.searching.specs.Claim.{Claim}
use Rattle.searching.proofs.Explored.{when_found, none_iff}
use Rattle.searching.proofs.Limits.{full_iff}

pub claimed : (t : Task) → T (well_formed t) → t.preferences ≡ [] → (limit : ℕ) → 1 ≤ limit → Claim t limit
claimed t wf plain limit h =
    record {
      plan = λ i e. let w = when_found t wf limit h plain i e in record { solution = w.solution; least = w.least };
      priced = λ i e. (when_found t wf limit h plain i e).priced;
      short = λ i e. (when_found t wf limit h plain i e).short;
      none = none_iff t wf limit h plain;
      crowded = full_iff t wf limit h plain;
    }
