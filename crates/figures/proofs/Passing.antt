-- One pass over the plans gives the figures, or the refusal, of the definition.
use mathlib.Core.Path.{◌≡◌, refl, sym, ap, ◌∙◌, fun_ext}
use mathlib.Core.Bool.{Bool, true, false, cond, ◌||◌}
use mathlib.Core.List.{List, [], ◌∷◌, ◌++◌, map, append-nil}
use Prim.Native.Nat.{ℕ, zero, suc, ◌+◌, ◌≤◌, min, max}
use native.Mathlib.Nat.{add-zero, zero-add}
use native.Mathlib.Omega.{arith}
use lib.Dec.{eqb, ltb, eqb-suc-zero}
use lib.ListN.{length, get_or}
use borrow.Author.Tests.{ltb-true, ltb-false}
use Rattle.lists.specs.Lists.{any, filter, range, sum, take_until}
use Rattle.task.specs.File.{Sizes, task_of}
use Rattle.task.specs.Check
use Rattle.task.specs.Check.{check}
use Rattle.meaning.specs.Verdict.{Verdict, solved, stopped, goal_missed, rule_missed, verdict}
use Rattle.plan.specs.Judged
use Rattle.plan.specs.Judged.{Judged, judged}
use Rattle.figures.specs.Reordered.{Reordered, then}
use Rattle.figures.specs.Figures.{Solution, solution, solutions, meeting, metrics, least, greatest, figures_over}
use Rattle.figures.specs.Week.{Answer, given, refused, is_faulty, first_faulty, fault_number, of_plans}
use Rattle.figures.specs.Pass.{Tally, no_plans, raised, counted, taken, closed, turned, pass_on, pass}
use Rattle.lists.proofs.Ranges.{take_numbered}
use Rattle.figures.proofs.Reorder.{as_was, other_way, past}
use Rattle.figures.proofs.Keeping.{over_reordered}
use Rattle.figures.proofs.Judging.{fault_place, judged_as}

-- The tally of some plans that solve

abbrev lowest_of : List Solution → ℕ
lowest_of [] = 0
lowest_of (x ∷ xs) = least x.metric (metrics xs)

abbrev highest_of : List Solution → ℕ
highest_of [] = 0
highest_of (x ∷ xs) = greatest x.metric (metrics xs)

abbrev tally_of : List Solution → Tally
tally_of xs =
    record {
      solving = length xs;
      lowest = lowest_of xs;
      highest = highest_of xs;
      total = sum (metrics xs);
      meetings = map (meeting xs) (range 0 16);
    }

raised_numbered : (met : ℕ → Bool) (g : ℕ → ℕ) (k n : ℕ) → raised met k (map g (range k n)) ≡ map (λ (j : ℕ). cond (met j) (g j + 1) (g j)) (range k n)
raised_numbered met g k zero = refl
raised_numbered met g k (suc n) = ap (λ (l : List ℕ). cond (met k) (g k + 1) (g k) ∷ l) (raised_numbered met g (k + 1) n)

-- one more of them
module _ (x : Solution) (xs : List Solution) where
  lowest_is : (xs : List Solution) → cond (eqb (length xs) 0 || ltb x.metric (lowest_of xs)) x.metric (lowest_of xs) ≡ least x.metric (metrics xs)
  lowest_is [] = refl
  lowest_is (y ∷ ys) =
      rw (eqb-suc-zero (length ys)) (go x.metric (least y.metric (metrics ys)) (ltb x.metric (least y.metric (metrics ys))) refl)
    where
      go : (m l : ℕ) (b : Bool) → ltb m l ≡ b → cond b m l ≡ min m l
      go m l true e = omega (arith, ltb-true m l e)
      go m l false e = omega (arith, ltb-false m l e)

  highest_is : (xs : List Solution) → cond (ltb (highest_of xs) x.metric) x.metric (highest_of xs) ≡ greatest x.metric (metrics xs)
  highest_is [] = go x.metric (ltb 0 x.metric) refl
    where
      go : (m : ℕ) (b : Bool) → ltb 0 m ≡ b → cond b m 0 ≡ m
      go m true e = refl
      go m false e = omega (arith, ltb-false 0 m e)
  highest_is (y ∷ ys) = go x.metric (greatest y.metric (metrics ys)) (ltb (greatest y.metric (metrics ys)) x.metric) refl
    where
      go : (m h : ℕ) (b : Bool) → ltb h m ≡ b → cond b m h ≡ max m h
      go m h true e = omega (arith, ltb-true h m e)
      go m h false e = omega (arith, ltb-false h m e)

  meeting_more : (k : ℕ) → cond (x.met k) (meeting xs k + 1) (meeting xs k) ≡ meeting (x ∷ xs) k
  meeting_more k = go (x.met k)
    where
      go : (b : Bool) → cond b (meeting xs k + 1) (meeting xs k) ≡ length (cond b (x ∷ filter (λ (y : Solution). y.met k) xs) (filter (λ (y : Solution). y.met k) xs))
      go true = omega arith
      go false = refl

  counted_is : counted (tally_of xs) x.metric x.met ≡ tally_of (x ∷ xs)
  counted_is =
      let n : length xs + 1 ≡ suc (length xs) = omega arith in
      let s : sum (metrics xs) + x.metric ≡ x.metric + sum (metrics xs) = omega arith in
      let low = lowest_is xs in
      let high = highest_is xs in
      let more : raised x.met 0 (map (meeting xs) (range 0 16)) ≡ map (meeting (x ∷ xs)) (range 0 16) =
      raised_numbered x.met (meeting xs) 0 16 ∙ ap (λ (g : ℕ → ℕ). map g (range 0 16)) (fun_ext meeting_more) in
      λ i. record { solving = n i; lowest = low i; highest = high i; total = s i; meetings = more i }

closed_is : (P : ℕ) → P ≤ 16 → (xs : List Solution) → closed P (tally_of xs) ≡ figures_over P xs
closed_is P h [] = refl
closed_is P h (x ∷ xs) = rw (eqb-suc-zero (length xs), take_numbered (meeting (x ∷ xs)) 0 P 16 h)

module _ (b : List ℕ) (z : Sizes) (h : check b ≡ Check.accepted z) where
  abbrev A : ℕ
  A = z.actions

  -- the next plan ends the pass where it is faulty
  pass_step : (k : ℕ) (a : Tally) (go : Tally → Answer) (p : List ℕ)
      → pass_on go (turned k a (judged b p)) ≡ cond (is_faulty A p) (refused (fault_number p) k) (go (taken a (verdict (task_of b) p)))
  pass_step k a go p = ap (λ (j : Judged). pass_on go (turned k a j)) (judged_as b z h p) ∙ by (is_faulty A p)
    where
      by : (c : Bool) → pass_on go (turned k a (cond c (Judged.refused (fault_number p) (fault_place A p)) (Judged.given (verdict (task_of b) p))))
          ≡ cond c (refused (fault_number p) k) (go (taken a (verdict (task_of b) p)))
      by true = refl
      by false = refl

  module _ (few : z.preferences ≤ 16) where
    abbrev P : ℕ
    P = z.preferences

    abbrev found : List (List ℕ) → List Solution
    found ps = solutions (map (verdict (task_of b)) ps)

    -- what the plans ps come to where the first is plan k, and ys are the solutions of them and of those before
    abbrev rest : ℕ → List (List ℕ) → List Solution → Answer
    rest k ps ys =
        cond (any (is_faulty A) ps) (refused (fault_number (get_or ps (first_faulty A ps) [])) (k + first_faulty A ps)) (given (figures_over P ys))

    -- xs are the solutions of those before, the last first
    passed : (xs ys : List Solution) (k : ℕ) (ps : List (List ℕ)) → Reordered (found ps ++ xs) ys → pass b P (tally_of xs) k ps ≡ rest k ps ys
    unfolding pass
    passed xs ys k [] r = ap given (closed_is P few xs ∙ over_reordered P xs ys r)
    passed xs ys k (p ∷ ps) r =
        pass_step k (tally_of xs) (λ (a : Tally). pass b P a (k + 1) ps) p
        ∙ ap (cond (is_faulty A p) (refused (fault_number p) k)) (next (verdict (task_of b) p) r (λ xs r. passed xs ys (k + 1) ps r))
        ∙ by (is_faulty A p)
      where
        next : (v : Verdict) → Reordered ((solution v ++ found ps) ++ xs) ys
            → ((xs : List Solution) → Reordered (found ps ++ xs) ys → pass b P (tally_of xs) (k + 1) ps ≡ rest (k + 1) ps ys)
            → pass b P (taken (tally_of xs) v) (k + 1) ps ≡ rest (k + 1) ps ys
        next (solved c m u s) r later =
            let x : Solution = record { metric = m; met = s } in
            ap (λ (a : Tally). pass b P a (k + 1) ps) (counted_is x xs) ∙ later (x ∷ xs) (then (other_way (past x (found ps) xs)) r)
        next (stopped i) r later = later xs r
        next goal_missed r later = later xs r
        next (rule_missed k) r later = later xs r

        shift : (n : ℕ) → k + 1 + n ≡ k + suc n
        shift n = omega arith

        by : (c : Bool) → cond c (refused (fault_number p) k) (rest (k + 1) ps ys)
            ≡ cond (c || any (is_faulty A) ps)
            (refused (fault_number (get_or (p ∷ ps) (length (cond c [] (p ∷ take_until (is_faulty A) ps))) [])) (k + length (cond c [] (p ∷ take_until (is_faulty A) ps))))
            (given (figures_over P ys))
        by true = ap (refused (fault_number p)) (sym (add-zero k))
        by false =
            ap (λ (i : ℕ). cond (any (is_faulty A) ps) (refused (fault_number (get_or ps (first_faulty A ps) [])) i) (given (figures_over P ys))) (shift (first_faulty A ps))

    -- the whole pass
    pub pass_is : (ps : List (List ℕ)) → pass b P no_plans 0 ps ≡ of_plans b z ps
    pass_is ps =
        passed [] (found ps) 0 ps (rw append-nil (as_was (found ps)))
        ∙ ap (λ (i : ℕ). cond (any (is_faulty A) ps) (refused (fault_number (get_or ps (first_faulty A ps) [])) i) (given (figures_over P (found ps)))) (zero-add (first_faulty A ps))
