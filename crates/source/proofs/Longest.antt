-- An area of 2,048 bytes is never too short for a source part.
use mathlib.Core.Path.{◌≡◌, refl, ap, ◌∙◌}
use mathlib.Core.Bool.{Bool, true, false, cond, true≢false}
use mathlib.Core.List.{List}
use Prim.Native.Nat.{ℕ, ◌≤◌}
use native.Mathlib.Omega.{arith}
use lib.Dec.{leb, ltb}
use lib.ListN.{length}
use borrow.Author.Tests.{leb-true}
use Rattle.classical.specs.Translation.{translated_actions}
use Rattle.lists.specs.Lists.{all}
use Rattle.task.specs.File.{Sizes}
use Rattle.outcome.specs.Outcome.{refused, fitted}
use Rattle.outcome.proofs.Outcomes.{has_room}
use Rattle.plan.specs.Judged.{steps_known}
use Rattle.plan_lines.specs.PlanText.{Read, plan, faulty, read_plan}
use Rattle.translation.specs.Measured.{Measured, within, measured}
use Rattle.translation.proofs.Measuring.{refused_alike}
use Rattle.translation.proofs.Longest.{never_too_short as translation_fits}
use Rattle.source.specs.Source.{below, of_known, of_text, outcome_by, outcome}
use Rattle.source.proofs.Returning.{fewer}

pub never_too_short : (b t : List ℕ) (room : ℕ) → 2048 ≤ room → (i : ℕ) → outcome b t room ≡ refused 9 i → ⊥
unfolding outcome
never_too_short b t room l i e = by_measure (measured b) refl e
  where
    by_known : (z : Sizes) (p : List ℕ) → length p ≤ 2048 → (x : Bool)
        → cond x (fitted (length (below z.actions p)) room) (refused 11 (steps_known (translated_actions z) p)) ≡ refused 9 i → ⊥
    by_known z p few true e =
        let fits : length (below z.actions p) ≤ room = omega (arith, l, fewer (λ (k : ℕ). ltb k z.actions) p) in
        has_room (length (below z.actions p)) room i fits e
    by_known z p few false e = true≢false (cc)

    by_length : (z : Sizes) (p : List ℕ) (x : Bool) → leb (length p) 2048 ≡ x → cond x (of_known z room p) (refused 10 0) ≡ refused 9 i → ⊥
    by_length z p true q e = by_known z p (leb-true (length p) 2048 q) (all (λ (k : ℕ). ltb k (translated_actions z)) p) e
    by_length z p false q e = true≢false (cc)

    by_text : (z : Sizes) (r : Read) → of_text z room r ≡ refused 9 i → ⊥
    by_text z (plan p) e = by_length z p (leb (length p) 2048) refl e
    by_text z (faulty j) e = true≢false (cc)

    by_measure : (m : Measured) → measured b ≡ m → outcome_by room (read_plan t) m ≡ refused 9 i → ⊥
    by_measure (within z) h e = by_text z (read_plan t) e
    by_measure (Measured.refused n j) h e = let nine : n ≡ 9 = cc in translation_fits b 60008 (omega arith) j (refused_alike b n j h 60008 ∙ ap (λ (k : ℕ). refused k j) nine)
