-- One more count stands behind those before it: next of Counts.
use borrow.Author.Rules.{rules}
use mathlib.Core.Path.{refl, ◌∙◌}
use mathlib.Core.List.{[], ◌∷◌}
use Prim.Native.Nat.{ℕ, ◌+◌}
use lib.ListN.{get_or, set, take}
use Rattle.words.proofs.Counts.{next}
use Rattle.words.proofs.put_amounts.Goals as goal

pub loop-k-preserved : goal.loop-k-preserved
loop-k-preserved c =
    let a = c.args.a in
    (λ i. set (c.loop-k.invariant i) (8 + c.loop-k.k) (c.count_at.ensures i))
    ∙ next (λ (k : ℕ). get_or (take a.preferences a.meeting) k 0) (0 ∷ a.solving ∷ a.least ∷ a.greatest ∷ a.sum ∷ a.mean ∷ a.remainder ∷ 0 ∷ []) 8 16 c.loop-k.k refl
    (search rules)
