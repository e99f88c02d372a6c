-- What write leaves in an area, read returns.
use mathlib.Core.Path.{◌≡◌, ap, ◌∙◌, subst⁻¹}
use mathlib.Core.Bool.{true}
use mathlib.Core.List.{List, ◌++◌}
use Prim.Native.Nat.{ℕ, ◌≤◌}
use lib.ListN.{length, take, drop}
use lib.Seq.{take_at}
use Rattle.outcome.specs.Outcome.{Outcome, written, area_after}
use Rattle.plan_lines.specs.PlanText.{text_of, plan, read_plan}
use Rattle.plan_text.specs.Outcomes.{read_by, read_outcome, steps, steps_in, write_outcome}
use Rattle.plan_text.proofs.Answering.{roomy, fits}
use Rattle.plan_lines.proofs.Returned.{bytes, returned}

-- an area after a plan was written into it
abbrev pub text_area : List ℕ → List ℕ → List ℕ
text_area p area = area_after (text_of p) area (write_outcome p (length area))

-- an area after a text was read into it
abbrev pub plan_area : List ℕ → List ℕ → List ℕ
plan_area t area = area_after (steps_in t) area (read_outcome t (length area))

-- reading t into an area leaves the plan p at its start, and what stood after
pub record ReadsAs (p t area : List ℕ) : Type 0 where
  pub outcome : read_outcome t (length area) ≡ written (length p)
  pub left : plan_area t area ≡ p ++ drop (length p) area

module _ (p : List ℕ) (h : bytes p ≡ true) (few : length p ≤ 2048) where
  its_text : (area : List ℕ) → length p ≤ length area → ReadsAs p (text_of p) area
  unfolding read_outcome steps_in
  its_text area room =
      let r : read_plan (text_of p) ≡ plan p = returned p h few in
      let o : read_by (length area) (read_plan (text_of p)) ≡ written (length p) =
      ap (read_by (length area)) r ∙ roomy (length p) (length p) (length area) few room in
      record { outcome = o; left = ap (area_after (steps (read_plan (text_of p))) area) o ∙ ap (λ (q : List ℕ). q ++ drop (length p) area) (ap steps r) }

-- a plan of at most 2,048 steps is written into every area that is long enough
pub writes : (p area : List ℕ) → length p ≤ 2048 → length (text_of p) ≤ length area → write_outcome p (length area) ≡ written (length (text_of p))
unfolding write_outcome
writes p area few room = roomy (length p) (length (text_of p)) (length area) few room

-- the first n bytes of its area, where n is the length that write answers, are read as the plan, into every area that is long enough
pub round_trip : (p area back : List ℕ) → bytes p ≡ true → (n : ℕ) → write_outcome p (length area) ≡ written n → length p ≤ length back
    → ReadsAs p (take n (text_area p area)) back
unfolding write_outcome
round_trip p area back h n e room =
    let (few, size) = fits (length p) (length (text_of p)) (length area) n e in
    let front : take n (text_area p area) ≡ text_of p = ap (λ (o : Outcome). take n (area_after (text_of p) area o)) e ∙ take_at (text_of p) (drop n area) n size in
    subst⁻¹ (λ (t : List ℕ). ReadsAs p t back) front (its_text p h few back room)
