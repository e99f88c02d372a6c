-- The whole way of a text, from faithfulness: what the planner paid for a list is the metric of its source part.
use mathlib.Core.Path.{◌≡◌, refl, sym, ap, ◌∙◌, subst}
use mathlib.Core.Bool.{Bool, true, false, cond, true≢false}
use mathlib.Core.List.{List, [], ◌∷◌}
use Prim.Native.Nat.{ℕ, suc, ◌+◌, ◌*◌, ◌≤◌}
use native.Mathlib.Omega.{arith}
use lib.Dec.{T, leb, ltb}
use lib.ListN.{length, take, drop}
use lib.Seq.{take_at}
use Rattle.lists.specs.Lists.{all, filter}
use Rattle.task.specs.File.{Sizes, sizes, task_of}
use Rattle.task.specs.Check
use Rattle.task.specs.Check.{check}
use Rattle.task.proofs.Spelled.{accepted_spelling}
use Rattle.meaning.specs.Meaning.{solves, cost}
use Rattle.outcome.specs.Outcome.{written, refused, area_after}
use Rattle.plan.specs.Judged.{steps_known}
use Rattle.plan_lines.specs.PlanText.{Read, plan, faulty, read_plan}
use Rattle.plan_text.specs.Outcomes.{steps, steps_in}
use Rattle.classical.specs.Claim.{source_part}
use Rattle.translation.specs.Measured
use Rattle.translation.specs.Measured.{within, measured}
use Rattle.translation.proofs.Measuring.{translatable}
use Rattle.paid.specs.CostIsMetric.{SettledAt}
use Rattle.paid.proofs.CostIsMetric.{paid_as_settled}
use Rattle.source.specs.Source.{below, of_text, outcome, part_in, Returned}
use Rattle.source.proofs.Sourced.{answered_few}

pub fewer : (p : ℕ → Bool) (xs : List ℕ) → length (filter p xs) ≤ length xs
fewer p [] = omega arith
fewer p (x ∷ xs) = go (p x) (fewer p xs)
  where
    go : (b : Bool) → length (filter p xs) ≤ length xs → length (cond b (x ∷ filter p xs) (filter p xs)) ≤ suc (length xs)
    go true h = omega arith
    go false h = omega arith

-- as many bytes are written as the part has steps
part_size : (z : Sizes) (room n : ℕ) (r : Read) → of_text z room r ≡ written n → length (below z.actions (steps r)) ≡ n
part_size z room n (faulty i) e = absurd (true≢false (cc))
part_size z room n (plan p) e =
    go (leb (length p) 2048) (all (λ (k : ℕ). ltb k (z.actions + 2 * z.preferences + 1)) p) (leb (length (below z.actions p)) room) e
  where
    go : (x y w : Bool)
        → cond x (cond y (cond w (written (length (below z.actions p))) (refused 9 0)) (refused 11 (steps_known (z.actions + 2 * z.preferences + 1) p))) (refused 10 0) ≡ written n
        → length (below z.actions p) ≡ n
    go true true true e = cc
    go true true false e = absurd (true≢false (cc))
    go true false w e = absurd (true≢false (cc))
    go false y w e = absurd (true≢false (cc))

pub turned_away : (b t : List ℕ) (room n i : ℕ) → measured b ≡ Measured.refused n i → outcome b t room ≡ refused n i
unfolding outcome
turned_away b t room n i e = rw e

module _ (b t : List ℕ) (z : Sizes) (can : measured b ≡ within z) where
  accepting : check b ≡ Check.accepted z
  accepting = (translatable b z can).accepting

  same : z ≡ sizes b
  same = (accepted_spelling b z accepting).same

  pub few_actions : z.actions + 2 * z.preferences + 1 ≤ 128
  few_actions = (translatable b z can).few_actions

  pub on_text : (room : ℕ) → of_text z room (read_plan t) ≡ outcome b t room
  unfolding outcome
  on_text room = rw can

  pub part_is : below z.actions (steps_in t) ≡ part_in b t
  unfolding part_in
  part_is = ap (λ (y : Sizes). below y.actions (steps_in t)) same

  module _ (room m : ℕ) (e : of_text z room (read_plan t) ≡ written m) (old area : List ℕ)
      (filled : area ≡ area_after (below z.actions (steps_in t)) old (of_text z room (read_plan t))) where
    at_start : take m area ≡ below z.actions (steps_in t)
    unfolding steps_in
    at_start =
        ap (take m) (filled ∙ ap (area_after (below z.actions (steps_in t)) old) e)
        ∙ take_at (below z.actions (steps_in t)) (drop m old) m (part_size z room m (read_plan t) e)

    pub returned : Returned b t area m
    returned =
        record {
          way = λ w n d solving.
              let is_part : source_part (task_of b) (steps_in t) ≡ take m area = ap (λ (A : ℕ). below A (steps_in t)) (d.source_actions ∙ ap (λ (y : Sizes). y.actions) (sym same)) ∙ sym at_start in
              let short : length (source_part (task_of b) (steps_in t)) ≤ 2048 = omega (arith, fewer (λ (k : ℕ). ltb k (length (task_of b).actions)) (steps_in t), answered_few z room t m e) in (
                subst (λ (p : List ℕ). T (solves (task_of b) p)) is_part ((d.faithfully.onto (source_part (task_of b) (steps_in t))).0 (steps_in t, solving, refl)),
                subst (λ (p : List ℕ). SettledAt b p (cost (task_of (take n w)) (steps_in t))) is_part
                    ((paid_as_settled b w n z accepting d).pays (steps_in t) solving short),
              );
        }
