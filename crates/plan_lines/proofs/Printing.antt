-- A plan's text, line after line.
use mathlib.Core.Path.{◌≡◌, refl, sym, ap, ◌∙◌}
use mathlib.Core.List.{List, [], ◌∷◌, ◌++◌, append_assoc}
use Prim.Native.Nat.{ℕ, ◌+◌, ◌<◌}
use native.Mathlib.Numerals.{add-one}
use lib.ListN.{length, get_or, take}
use lib.Seq.{take-suc}
use Rattle.text.specs.Area.{Wrote}
use Rattle.text.proofs.Writing.{then, no_bytes}
use Rattle.plan_lines.specs.PlanText.{step_line, text_of}

text_snoc : (p : List ℕ) (n : ℕ) → text_of (p ++ (n ∷ [])) ≡ text_of p ++ (step_line n ++ (10 ∷ []))
unfolding text_of
text_snoc [] n = refl
text_snoc (k ∷ p) n =
    ap (λ (l : List ℕ). step_line k ++ (10 ∷ l)) (text_snoc p n)
    ∙ sym (append_assoc (step_line k) (10 ∷ text_of p) (step_line n ++ (10 ∷ [])))

module _ (b p : List ℕ) where
  pub no_lines : Wrote b 0 (text_of (take 0 p)) 0 b
  unfolding text_of
  no_lines = no_bytes b 0

  pub one_line_more : (mid out : List ℕ) (i j k : ℕ) → i < length p
      → Wrote b 0 (text_of (take i p)) j mid → Wrote mid j (step_line (get_or p i 0) ++ (10 ∷ [])) k out → Wrote b 0 (text_of (take (i + 1) p)) k out
  one_line_more mid out i j k h v w = rw (add-one i, take-suc p i 0 h, text_snoc (take i p) (get_or p i 0)) (then v w)
