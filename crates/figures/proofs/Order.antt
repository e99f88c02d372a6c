-- The figures do not hang on the order of the plans.
use mathlib.Core.Path.{◌≡◌, refl, sym, ap, ap₂, subst⁻¹, ◌∙◌}
use mathlib.Core.Bool.{Bool, true, false, cond, ◌&&◌, ◌||◌, true≢false}
use mathlib.Core.List.{List, [], map}
use Prim.Native.Nat.{ℕ, suc, ◌+◌, ◌*◌}
use lib.Dec.{leb}
use lib.ListN.{length, get_or}
use Rattle.lists.specs.Lists.{all, any}
use Rattle.task.specs.File.{Sizes, task_of}
use Rattle.task.specs.Check
use Rattle.task.specs.Check.{check}
use Rattle.meaning.specs.Verdict.{verdict}
use Rattle.figures.specs.Plans.{Entry, count, entries, step_bytes, plan_of, plans, stands, readable}
use Rattle.figures.specs.Figures.{Figures, figures}
use Rattle.figures.specs.Week.{Answer, given, refused, is_faulty, first_faulty, fault_number, of_plans, week_by, week_of}
use Rattle.figures.specs.Reordered.{Reordered}
use Rattle.figures.proofs.Numbered.{length-entries}
use Rattle.figures.proofs.Reorder.{same, mapped}
use Rattle.figures.proofs.Keeping.{figures_reordered}

module _ {A : Type 0} (p : A → Bool) {xs ys : List A} (r : Reordered xs ys) where
  all_reordered : all p xs ≡ all p ys
  all_reordered = same (all p) (λ (x : A) (c : Bool). p x && c) (λ x xs. refl) (λ x y c. go (p x) (p y) c) r
    where
      go : (a b c : Bool) → (a && (b && c)) ≡ (b && (a && c))
      go true b c = refl
      go false true c = refl
      go false false c = refl

  any_reordered : any p xs ≡ any p ys
  any_reordered = same (any p) (λ (x : A) (c : Bool). p x || c) (λ x xs. refl) (λ x y c. go (p x) (p y) c) r
    where
      go : (a b c : Bool) → (a || (b || c)) ≡ (b || (a || c))
      go true true c = refl
      go true false c = refl
      go false b c = refl

pub of_reordered : (b : List ℕ) (z : Sizes) (x : Figures) {ps qs : List (List ℕ)} → Reordered ps qs → of_plans b z ps ≡ given x → of_plans b z qs ≡ given x
of_reordered b z x {ps} {qs} r = rw (any_reordered (is_faulty z.actions) r) (go (any (is_faulty z.actions) qs))
  where
    A : ℕ
    A = z.actions

    go : (c : Bool) → cond c (refused (fault_number (get_or ps (first_faulty A ps) [])) (first_faulty A ps)) (given (figures z.preferences (map (verdict (task_of b)) ps))) ≡ given x
        → cond c (refused (fault_number (get_or qs (first_faulty A qs) [])) (first_faulty A qs)) (given (figures z.preferences (map (verdict (task_of b)) qs))) ≡ given x
    go true e = absurd (true≢false (cc))
    go false e = ap given (sym (figures_reordered z.preferences (mapped (verdict (task_of b)) r))) ∙ e

-- f and g have the same step bytes, and the same entries in another order
module _ (f g : List ℕ) (same_length : length f ≡ length g) (same_bytes : step_bytes f ≡ step_bytes g) (r : Reordered (entries f) (entries g)) where
  same_count : count f ≡ count g
  same_count = sym (length-entries f) ∙ same length (λ (e : Entry) (n : ℕ). suc n) (λ e l. refl) (λ d e n. refl) r ∙ length-entries g

  -- 18 refuses both or neither
  pub readable_reordered : readable f ≡ readable g
  unfolding readable
  readable_reordered =
      ap₂ ◌&&◌ (λ i. leb 2 (same_length i) && leb 1 (same_count i) && leb (same_count i) 64 && leb (2 + 4 * same_count i) (same_length i))
      (ap (λ (l : List ℕ). all (stands l) (entries f)) same_bytes ∙ all_reordered (stands (step_bytes g)) r)

  pub plans_reordered : Reordered (plans f) (plans g)
  plans_reordered = subst⁻¹ (λ (l : List ℕ). Reordered (map (plan_of l) (entries f)) (plans g)) same_bytes (mapped (plan_of (step_bytes g)) r)

  -- where figures are given for one, the same are given for the other
  pub week_reordered : (b : List ℕ) (x : Figures) → week_of b f ≡ given x → week_of b g ≡ given x
  unfolding week_of
  week_reordered b x = go (check b)
    where
      go : (a : Check.Answer) → week_by b f a ≡ given x → week_by b g a ≡ given x
      go (Check.refused n i) e = e
      go (Check.accepted z) e = by (readable g) (rw readable_reordered at e)
        where
          by : (c : Bool) → cond c (of_plans b z (plans f)) (refused 18 0) ≡ given x → cond c (of_plans b z (plans g)) (refused 18 0) ≡ given x
          by true e = of_reordered b z x plans_reordered e
          by false e = e
