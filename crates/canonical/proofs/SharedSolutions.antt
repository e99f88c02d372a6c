-- Faithful translations of two tasks that mean the same have the solutions of one source.
use mathlib.Core.Path.{◌≡◌, sym, ap, ◌∙◌, subst, subst⁻¹, fun_ext}
use mathlib.Core.Bool.{Bool}
use mathlib.Core.Logic.Iff
use mathlib.Core.Logic.{◌↔◌}
use mathlib.Core.List.{List}
use Prim.Native.Nat.{ℕ}
use lib.Dec.{T}
use Rattle.meaning.specs.Task.{Task}
use Rattle.meaning.specs.Meaning.{solves, metric}
use Rattle.classical.specs.Claim.{Faithful, source_part, Least, None}
use Rattle.alike.specs.Alike.{Alike}
use Rattle.alike.proofs.Verdict.{judged_alike, same_solves}
use Rattle.canonical.specs.SharedSolutions.{SolvedBy, SharedSolutions}

-- p is the source part of a solution that costs m exactly where it solves the source with metric m
module _ (s c : Task) (f : Faithful s c) (p : List ℕ) (m : ℕ) where
  abbrev SolvesAt : Task → Type 0
  SolvesAt u = T (solves u p) × (metric u p ≡ m)

  found : SolvesAt s → (x : List ℕ) × T (solves c x) × (source_part s x ≡ p) → SolvedBy s c p m
  found h (x, k, e) = (x, k, e, f.cost_preserved x k ∙ ap (metric s) e ∙ h.1)

  by_source : SolvedBy s c p m ↔ SolvesAt s
  by_source = (
    λ x. (
      (f.onto p).0 (x.0, x.1, x.2),
      ap (metric s) (sym x.2) ∙ sym (f.cost_preserved x.0 x.1) ∙ x.3,
    ),
    λ h. found h ((f.onto p).1 h.0),
  )

-- what speaks of a task's solutions and their metrics alone holds of both
module _ (s t : Task) (e : Alike s t) where
  alike_so : (X : (List ℕ → Bool) → (List ℕ → ℕ) → Type 0) → X (solves s) (metric s) ↔ X (solves t) (metric t)
  alike_so X =
      let same : X (solves s) (metric s) ≡ X (solves t) (metric t) =
      λ i. X (fun_ext (λ (p : List ℕ). same_solves s t e p) i) (fun_ext (λ (p : List ℕ). (judged_alike s t e p).metrics) i) in
      (subst (λ (Y : Type 0). Y) same, subst⁻¹ (λ (Y : Type 0). Y) same)

  pub solutions_shared : (c d : Task) → Faithful s c → Faithful t d → SharedSolutions s c t d
  solutions_shared c d f g =
      record {
        solutions = λ p m. Iff.trans (by_source s c f p m)
            (Iff.trans (alike_so (λ ok amount. T (ok p) × (amount p ≡ m))) (Iff.symm (by_source t d g p m)));
        least = λ m. Iff.trans (f.least m) (Iff.trans (alike_so (λ ok amount. Least ok amount m)) (Iff.symm (g.least m)));
        none = Iff.trans f.none (Iff.trans (alike_so (λ ok amount. None ok)) (Iff.symm g.none));
      }
