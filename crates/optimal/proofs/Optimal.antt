-- What translate delivers, searched: by faithfulness and the search's claim.
use mathlib.Core.Path.{◌≡◌, refl, sym, ◌∙◌, ap, subst}
use mathlib.Core.List.{List}
use Prim.Native.Nat.{ℕ, ◌≤◌}
use native.Mathlib.Omega.{arith}
use lib.Dec.{T}
use lib.ListN.{take}
use Rattle.meaning.specs.Task.{Task}
use Rattle.meaning.specs.Meaning.{solves, metric}
use Rattle.task.specs.File.{task_of}
use Rattle.classical.specs.Claim.{source_part, Faithful}
use Rattle.translation.specs.Translated.{Delivered}
use Rattle.searching.specs.Claim.{Cheapest}
use Rattle.searched.specs.Searched.{search_file}
use Rattle.searched.specs.Claim.{Claim}
use Rattle.searched.proofs.Claimed.{search_claim}
use Rattle.optimal.specs.Optimal.{LeastMetric, Optimal, OptimalOn}

-- a cheapest plan of a faithful task has a source part of least metric
pub least_source : (s c : Task) → Faithful s c → (x : List ℕ) → Cheapest c x → LeastMetric s (source_part s x)
least_source s c f x w =
    record {
      solution = (f.onto (source_part s x)).0 (x, w.solution, refl);
      least = λ q h. go q ((f.onto q).1 h);
    }
  where
    go : (q : List ℕ) → (y : List ℕ) × T (solves c y) × (source_part s y ≡ q) → metric s (source_part s x) ≤ metric s q
    go q (y, h, e) = omega (arith, f.cost_preserved x w.solution, f.cost_preserved y h, ap (metric s) e, w.least y h)

-- a search of the bytes that translate wrote finds the best plan of the source
pub optimal : (b area : List ℕ) (n : ℕ) → Delivered b area n → (limit room : ℕ) → Optimal b (search_file (take n area) limit room).answer
optimal b area n d limit room =
    let C : Claim (take n area) limit (search_file (take n area) limit room).answer = search_claim (take n area) limit room in
    record {
      plan = λ p c e. least_source (task_of b) (task_of (take n area)) d.faithfully p (C.plan p c e);
      priced = λ p c e. sym (d.faithfully.cost_preserved p (C.plan p c e).solution) ∙ C.priced p c e;
      none = λ t f. (λ e. d.faithfully.none.0 ((C.none t f).0 e), λ u. (C.none t f).1 (d.faithfully.none.1 u));
    }

pub optimal_on : (c : List ℕ) (limit room : ℕ) → OptimalOn c (search_file c limit room).answer
optimal_on c limit room b area n d e = subst (λ (l : List ℕ). Optimal b (search_file l limit room).answer) e (optimal b area n d limit room)
