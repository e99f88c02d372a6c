-- A task that means what a translation means is as faithful to the source.
use mathlib.Core.Path.{◌≡◌, sym, ◌∙◌, subst, subst⁻¹, fun_ext}
use mathlib.Core.Bool.{Bool}
use mathlib.Core.Logic.{◌↔◌}
use mathlib.Core.List.{List}
use Prim.Native.Nat.{ℕ}
use lib.Dec.{T}
use lib.ListN.{take}
use Rattle.meaning.specs.Task.{Task}
use Rattle.meaning.specs.Meaning.{solves, cost, metric}
use Rattle.task.specs.File.{task_of}
use Rattle.alike.specs.Alike.{Alike}
use Rattle.alike.proofs.Verdict.{same_solves, judged_alike}
use Rattle.classical.specs.Claim.{source_part, Least, None, Faithful}
use Rattle.translation.specs.Translated
use Rattle.single_effects.specs.Claim.{Delivered}

module _ (s c d : Task) (a : Alike c d) (f : Faithful s c) where
  back : (x : List ℕ) → T (solves d x) → T (solves c x)
  back x h = subst⁻¹ T (same_solves c d a x) h

  solving : solves c ≡ solves d
  solving = fun_ext (λ x. same_solves c d a x)

  costing : cost c ≡ cost d
  costing = fun_ext (λ x. (judged_alike c d a x).costs)

  pub followed : Faithful s d
  followed =
      record {
        injective = λ x y h k. f.injective x y (back x h) (back y k);
        onto = λ p.
            subst (λ (ok : List ℕ → Bool). ((x : List ℕ) × T (ok x) × (source_part s x ≡ p)) ↔ T (solves s p)) solving (f.onto p);
        cost_preserved = λ x h. sym (judged_alike c d a x).costs ∙ f.cost_preserved x (back x h);
        least = λ m.
            subst (λ (ok : List ℕ → Bool). Least ok (cost d) m ↔ Least (solves s) (metric s) m) solving
            (subst (λ (amount : List ℕ → ℕ). Least (solves c) amount m ↔ Least (solves s) (metric s) m) costing (f.least m));
        none = subst (λ (ok : List ℕ → Bool). None ok ↔ None (solves s)) solving f.none;
      }

-- translate and then single: the task that single wrote is faithful to the source in b
pub translated_singled : (b area : List ℕ) (n : ℕ) → Translated.Delivered b area n → (out : List ℕ) (m : ℕ) → Delivered (take n area) out m
    → Faithful (task_of b) (task_of (take m out))
translated_singled b area n t out m d = d.faithfully (task_of b) t.faithfully
