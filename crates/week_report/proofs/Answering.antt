-- The text and the outcome, from what week answers.
use mathlib.Core.Path.{◌≡◌, ap, ◌∙◌}
use mathlib.Core.List.{List}
use Prim.Native.Nat.{ℕ}
use native.Mathlib.Nat.{zero-add}
use lib.ListN.{length}
use Rattle.text.specs.Area.{Wrote}
use Rattle.text.specs.Area as Areas
use Rattle.text.proofs.Writing.{no_bytes}
use Rattle.outcome.specs.Outcome
use Rattle.figures.specs.Plans.{count}
use Rattle.figures.specs.Figures.{Figures}
use Rattle.figures.specs.Week.{Answer, given, refused, week_of}
use Rattle.week_report.specs.Report.{answer_text, week_text, outcome_by, week_outcome}

module _ (b f : List ℕ) (n : ℕ) (counts : n ≡ count f) where
  text_is : (x : Answer) → x ≡ week_of b f → answer_text n x ≡ week_text b f
  unfolding week_text
  text_is x e = λ i. answer_text (counts i) (e i)

  outcome_is : (x : Answer) → x ≡ week_of b f → outcome_by (length (answer_text n x)) x ≡ week_outcome b f
  unfolding week_outcome
  outcome_is x e = λ i. outcome_by (length (text_is x e i)) (e i)

  module _ (out : List ℕ) where
    abbrev Done : Outcome.Outcome → List ℕ → Type 0
    Done o out' = (o ≡ week_outcome b f) × (out' ≡ Areas.written (week_text b f) 0 out)

    pub text_written : (x : Figures) → given x ≡ week_of b f → (r : ℕ) (out' : List ℕ) → Wrote out 0 (answer_text n (given x)) r out' → Done (Outcome.written r) out'
    text_written x e r out' w = (
      ap Outcome.written (w.after ∙ zero-add (length (answer_text n (given x)))) ∙ outcome_is (given x) e,
      w.area ∙ ap (λ (l : List ℕ). Areas.written l 0 out) (text_is (given x) e),
    )

    pub none_written : (m i : ℕ) → refused m i ≡ week_of b f → Done (Outcome.refused m i) out
    none_written m i e = (
      outcome_is (refused m i) e,
      (no_bytes out 0).area ∙ ap (λ (l : List ℕ). Areas.written l 0 out) (text_is (refused m i) e),
    )
