-- The nodes kept have room, and their origins are places among them.
use mathlib.Core.Path.{◌≡◌, sym, ◌∙◌, ap, subst}
use mathlib.Core.List.{List, []}
use Prim.Native.Nat.{ℕ, ◌<◌, ◌≤◌}
use native.Mathlib.Decide.{ℕ_discrete}
use native.Mathlib.Omega.{arith}
use lib.Dec.{T}
use lib.ListN.{length}
use Rattle.meaning.specs.Task.{Task, well_formed}
use Rattle.task.specs.File.{task_of}
use Rattle.searching.specs.Limits.{MAX_NODES}
use Rattle.searching.specs.Search.{Node, node_at, explore}
use Rattle.searching.proofs.Turns.{Right}
use Rattle.searching.proofs.Explored.{explored}
use Rattle.searched.specs.Searched.{Searched, search_file}
use Rattle.searched.proofs.Made.{Made, by_made}

pub record Small (room : ℕ) (ns : List Node) : Type 0 where
  pub roomy : length ns ≤ room
  pub few : length ns ≤ MAX_NODES
  pub inside : (p : ℕ) → p < length ns → (node_at ns p).origin < length ns

-- the origins of the nodes that a search keeps
pub origins_inside : (t : Task) → T (well_formed t) → t.preferences ≡ [] → (limit : ℕ) → 1 ≤ limit → (p : ℕ) → p < length (explore t limit).nodes
    → (node_at (explore t limit).nodes p).origin < length (explore t limit).nodes
origins_inside t wf plain limit some p h = by (ℕ_discrete p 0)
  where
    right : Right t limit (explore t limit)
    right = explored t wf limit some plain

    by : Dec (p ≡ 0) → (node_at (explore t limit).nodes p).origin < length (explore t limit).nodes
    by (yes z) =
        subst (λ (y : Node). y.origin < length (explore t limit).nodes)
        (sym (ap (node_at (explore t limit).nodes) z ∙ right.listed.first)) right.listed.some
    by (no z) = (right.listed.linked p h z).0

module _ (b : List ℕ) (limit room : ℕ) where
  when_made : Made b limit room → Small room (explore (task_of b) limit).nodes
  when_made m =
      record {
        roomy = omega (arith, right.listed.room, m.roomy);
        few = omega (arith, right.listed.room, m.allowed.few);
        inside = origins_inside (task_of b) m.formed m.plain limit m.allowed.some;
      }
    where
      right : Right (task_of b) limit (explore (task_of b) limit)
      right = explored (task_of b) m.formed limit m.allowed.some m.plain

  pub kept_small : Small room (search_file b limit room).kept
  kept_small =
      by_made b limit room (λ (x : Searched). Small room x.kept)
      (λ n i. record { roomy = omega arith; few = omega arith; inside = λ p h. absurd (omega arith) }) when_made
