-- The whole answer: its figures keep to what they should, and fit 64 bits.
use mathlib.Core.Path.{◌≡◌, refl, ap, subst, ◌∙◌}
use mathlib.Core.Bool.{Bool, true, false, not, cond, ◌&&◌, ◌||◌, true≢false}
use mathlib.Core.List.{List, [], ◌∷◌, map}
use Prim.Native.Nat.{ℕ, ◌*◌, ◌≤◌, ◌<◌}
use native.Mathlib.Omega.{arith}
use lib.Dec.{T, leb, leb→le}
use lib.ListN.{length, length-map, get_or}
use Rattle.lists.specs.Lists.{any, filter, sum}
use Rattle.task.specs.File.{Sizes, sizes, task_of}
use Rattle.task.specs.Check
use Rattle.task.specs.Check.{check}
use Rattle.task.specs.Limits.{MAX_AMOUNT}
use Rattle.meaning.specs.Meaning.{solves}
use Rattle.meaning.specs.Verdict.{verdict}
use Rattle.lists.proofs.Tests.{tests, as_t, as_true, none_of, all_implies}
use Rattle.task.proofs.Checking as Sized
use Rattle.task.proofs.Spelled.{accepted_spelling}
use Rattle.figures.specs.Plans.{count, entries, step_bytes, plan_of, plans, readable}
use Rattle.figures.specs.Figures.{Solution, solutions, Amounts, Figures, solve, figures_over, figures, metrics}
use Rattle.figures.specs.Week.{Answer, given, refused, is_faulty, first_faulty, fault_number, of_plans, week_by, week_of}
use Rattle.figures.specs.Sound.{SoundIn, SumsWithin, IfGiven}
use Rattle.figures.proofs.Numbered.{length-entries}
use Rattle.figures.proofs.Sums.{greatest-sum}
use Rattle.figures.proofs.Reorder.{same}
use Rattle.figures.proofs.Keeping.{filter_fewer, sound}
use Rattle.figures.proofs.Judging.{not_long, First, first}
use Rattle.figures.proofs.Solving.{solution_of, solutions_are, accepted_limited, total_most, total_fits}

none_of_lem : {A : Type 0} (p : A → Bool) (xs : List A) → any p xs ≡ false → T (none_of p xs)
none_of_lem p [] e = tt
none_of_lem p (x ∷ xs) e = go (p x) refl e (none_of_lem p xs)
  where
    go : (b : Bool) → p x ≡ b → (b || any p xs) ≡ false → (any p xs ≡ false → T (none_of p xs)) → T (not (p x) && none_of p xs)
    go true q e later = absurd (true≢false e)
    go false q e later = rw q (later e)

-- figures come of an accepted task, a readable file and no faulty plan
module _ (b f : List ℕ) (holds : Figures → Type 0) where
  if_given : ((z : Sizes) → check b ≡ Check.accepted z → T (readable f) → T (none_of (is_faulty z.actions) (plans f))
      → holds (figures z.preferences (map (verdict (task_of b)) (plans f)))) → IfGiven holds (week_of b f)
  unfolding week_of
  if_given says = go (check b) refl
    where
      go : (a : Check.Answer) → check b ≡ a → IfGiven holds (week_by b f a)
      go (Check.refused n i) h = tt
      go (Check.accepted z) h = by (readable f) refl (any (is_faulty z.actions) (plans f)) refl
        where
          by : (x : Bool) → readable f ≡ x → (y : Bool) → any (is_faulty z.actions) (plans f) ≡ y
              → IfGiven holds (cond x (cond y (refused (fault_number (get_or (plans f) (first_faulty z.actions (plans f)) [])) (first_faulty z.actions (plans f)))
              (given (figures z.preferences (map (verdict (task_of b)) (plans f))))) (refused 18 0))
          by false p y q = tt
          by true p true q = tt
          by true p false q = says z h (as_t p) (none_of_lem (is_faulty z.actions) (plans f) q)

pub week_sound : (b f : List ℕ) → IfGiven (SoundIn (sizes b).preferences) (week_of b f)
week_sound b f = if_given b f (SoundIn (sizes b).preferences) (λ z h r n. on z (accepted_spelling b z h).same)
  where
    on : (z : Sizes) → z ≡ sizes b → SoundIn (sizes b).preferences (figures z.preferences (map (verdict (task_of b)) (plans f)))
    on z e = rw e (sound (sizes b).preferences (map (verdict (task_of b)) (plans f)))

-- How large the figures get

count-plans : (f : List ℕ) → length (plans f) ≡ count f
count-plans f = length-map (entries f) (plan_of (step_bytes f)) ∙ length-entries f

few_plans : (f : List ℕ) → T (readable f) → length (plans f) ≤ 64
unfolding readable
few_plans f t = omega (arith, count-plans f, leb→le (count f) 64 (search tests))

-- the numbers of plans and of preferences
pub week_few : (b f : List ℕ) → IfGiven (λ (x : Figures). (count f ≤ 64) × ((sizes b).preferences ≤ 16)) (week_of b f)
week_few b f = if_given b f (λ (x : Figures). (count f ≤ 64) × ((sizes b).preferences ≤ 16)) on
  where
    on : (z : Sizes) → check b ≡ Check.accepted z → T (readable f) → T (none_of (is_faulty z.actions) (plans f))
        → (count f ≤ 64) × ((sizes b).preferences ≤ 16)
    on z h r n =
        let s = accepted_spelling b z h in
        (omega (arith, few_plans f r, count-plans f), omega (arith, (Sized.within z s.allowed).4, ap (λ (x : Sizes). x.preferences) s.same))

fits_in : (M P : ℕ) (xs : List Solution) → length xs ≤ 64 → sum (metrics xs) ≤ M → SumsWithin M (figures_over P xs)
fits_in M P [] n s = tt
fits_in M P (x ∷ xs) n s = record { few = n; small = s; within = greatest-sum x.metric (metrics xs) }

-- at most 64 plans of 2,048 steps and 16 preferences, at the limit of costs and weights
pub week_fits : (b f : List ℕ) → IfGiven (SumsWithin (132096 * MAX_AMOUNT)) (week_of b f)
week_fits b f = if_given b f (SumsWithin (132096 * MAX_AMOUNT)) on
  where
    count_solving : length (solutions (map (verdict (task_of b)) (plans f))) ≤ length (plans f)
    count_solving =
        rw (solutions_are (task_of b) (plans f))
        (omega (arith, length-map (filter (solves (task_of b)) (plans f)) (solution_of (task_of b)), filter_fewer (solves (task_of b)) (plans f)))

    on : (z : Sizes) → check b ≡ Check.accepted z → T (readable f) → T (none_of (is_faulty z.actions) (plans f))
        → SumsWithin (132096 * MAX_AMOUNT) (figures z.preferences (map (verdict (task_of b)) (plans f)))
    on z h r n =
        fits_in (132096 * MAX_AMOUNT) z.preferences (solutions (map (verdict (task_of b)) (plans f))) (omega (arith, count_solving, few_plans f r))
        (total_most (task_of b) MAX_AMOUNT (accepted_limited b z h) (plans f) (few_plans f r)
        (all_implies (λ (p : List ℕ). not (is_faulty z.actions p)) (λ (p : List ℕ). leb (length p) 2048) (not_long z.actions) (plans f) n))

-- so the sum is a number of 64 bits
pub week_64 : (b f : List ℕ) (n : ℕ) (a : Amounts) → week_of b f ≡ given (solve n a) → a.total < 18446744073709551616
week_64 b f n a e = total_fits MAX_AMOUNT a.total (omega arith) (subst (IfGiven (SumsWithin (132096 * MAX_AMOUNT))) e (week_fits b f)).small

-- Behind 18, a refusal is by the first faulty plan: its number is the place

module _ (b : List ℕ) (z : Sizes) (n k : ℕ) where
  abbrev Refuses : List (List ℕ) → Type 0
  Refuses ps = First (is_faulty z.actions) [] ps k × (fault_number (get_or ps k []) ≡ n)

  of_faulty : (ps : List (List ℕ)) → of_plans b z ps ≡ refused n k → Refuses ps
  of_faulty ps = go (any (is_faulty z.actions) ps) refl
    where
      at : ℕ
      at = first_faulty z.actions ps

      go : (c : Bool) → any (is_faulty z.actions) ps ≡ c
          → cond c (refused (fault_number (get_or ps at [])) at) (given (figures z.preferences (map (verdict (task_of b)) ps))) ≡ refused n k → Refuses ps
      go true h e =
          let here : at ≡ k = cc in
          let number : fault_number (get_or ps at []) ≡ n = cc in
          subst (λ (j : ℕ). First (is_faulty z.actions) [] ps j × (fault_number (get_or ps j []) ≡ n)) here (first (is_faulty z.actions) [] ps (as_t h), number)
      go false h e = let no : ◌≡◌ {A = ℕ} 0 1 = cc in absurd (omega arith)

  pub week_faulty : (f : List ℕ) → check b ≡ Check.accepted z → T (readable f) → week_of b f ≡ refused n k → Refuses (plans f)
  unfolding week_of
  week_faulty f h r e =
      let read : readable f ≡ true = as_true (readable f) r in
      of_faulty (plans f) (rw (h, read) at e)
