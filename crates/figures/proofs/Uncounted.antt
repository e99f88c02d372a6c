-- What is not counted: preferences that the task does not have, and any where no plan solves.
use mathlib.Core.Path.{◌≡◌, refl, sym, ap, subst, ◌∙◌}
use mathlib.Core.Bool.{Bool, false, cond, true≢false}
use mathlib.Core.List.{List, [], ◌∷◌, map}
use Prim.Native.Nat.{ℕ, zero, suc, ◌+◌, ◌-◌, ◌≤◌}
use native.Mathlib.Nat.{add-zero, zero-add}
use native.Mathlib.Omega.{arith}
use lib.IntN.{ℤ}
use lib.ListN.{length, length-map, drop, replicate, get_or-eq_default}
use Rattle.task.specs.File.{Sizes, task_of}
use Rattle.meaning.specs.Meaning.{is_met}
use Rattle.task.specs.Check
use Rattle.task.specs.Check.{check}
use Rattle.meaning.specs.Verdict.{solved, stopped, goal_missed, rule_missed, met_set}
use Rattle.meaning.proofs.Verdict.{solved_iff, solved_only}
use Rattle.task.proofs.Spelled.{accepted_spelling}
use Rattle.plan.specs.Judged
use Rattle.plan.specs.Judged.{Judged, judged}
use Rattle.figures.specs.Pass.{Tally, no_plans, raised, counted, on, turned, Counting}
use Rattle.figures.proofs.Judging.{judged_only}
use Rattle.figures.proofs.Small.{length-raised}

abbrev zeros : ℕ → List ℕ
zeros n = replicate n 0

drop_zeros : (n m : ℕ) → drop n (zeros m) ≡ zeros (m - n)
drop_zeros zero m = let e : m ≡ m - 0 = omega arith in ap zeros e
drop_zeros (suc n) zero = let e : 0 ≡ 0 - suc n = omega arith in ap zeros e
drop_zeros (suc n) (suc m) = let e : m - n ≡ suc m - suc n = omega arith in drop_zeros n m ∙ ap zeros e

pub counting_first : (P : ℕ) → Counting P no_plans
counting_first P = record { sixteen = refl; beyond = drop_zeros P 16; unsolved = λ e. refl }

-- One more plan that solves, and meets no preference from P on

module _ (met : ℕ → Bool) where
  drop-raised : (n k : ℕ) (cs : List ℕ) → drop n (raised met k cs) ≡ raised met (k + n) (drop n cs)
  drop-raised zero k cs = ap (λ (j : ℕ). raised met j cs) (sym (add-zero k))
  drop-raised (suc n) k [] = refl
  drop-raised (suc n) k (c ∷ cs) =
      let shift : k + 1 + n ≡ k + suc n = omega arith in
      drop-raised n (k + 1) cs ∙ ap (λ (j : ℕ). raised met j (drop n cs)) shift

  module _ (P : ℕ) (none : (k : ℕ) → P ≤ k → met k ≡ false) where
    raised_none : (k : ℕ) → P ≤ k → (cs : List ℕ) → raised met k cs ≡ cs
    raised_none k h [] = refl
    raised_none k h (c ∷ cs) = λ z. cond (none k h z) (c + 1) c ∷ raised_none (k + 1) (omega arith) cs z

    counting_counted : (a : Tally) (metric : ℕ) → Counting P a → Counting P (counted a metric met)
    counting_counted a metric s =
        record {
          sixteen = length-raised met 0 a.meetings ∙ s.sixteen;
          beyond =
              drop-raised P 0 a.meetings ∙ ap (λ (j : ℕ). raised met j (drop P a.meetings)) (zero-add P)
              ∙ raised_none P (omega arith) (drop P a.meetings) ∙ s.beyond;
          unsolved = λ (e : a.solving + 1 ≡ 0). absurd (omega arith);
        }

-- the plans of a task meet no others
none_beyond : (b : List ℕ) (z : Sizes) → check b ≡ Check.accepted z → (p : List ℕ) (c m : ℕ) (u : ℤ) (s : ℕ → Bool)
    → judged b p ≡ Judged.given (solved c m u s) → (k : ℕ) → z.preferences ≤ k → s k ≡ false
none_beyond b z h p c m u s e k beyond =
    let v = (judged_only b z h p (solved c m u s) e).1 in
    let set : s ≡ met_set (task_of b) p = cc (v, (solved_iff (task_of b) p).1 (solved_only (task_of b) p c m u s v).0) in
    let many : length (task_of b).preferences ≡ z.preferences = ap (λ (y : Sizes). y.preferences) (accepted_spelling b z h).sized in
    let all : List Bool = map (is_met (task_of b) p) (task_of b).preferences in
    ap (λ (f : ℕ → Bool). f k) set
    ∙ get_or-eq_default all false (omega (arith, many, length-map (task_of b).preferences (is_met (task_of b) p)))

-- so a turn counts nothing else
pub counting_turned : (b : List ℕ) (z : Sizes) → check b ≡ Check.accepted z → (p : List ℕ) (k : ℕ) (a a' : Tally)
    → Counting z.preferences a → turned k a (judged b p) ≡ on a' → Counting z.preferences a'
counting_turned b z h p k a a' s q = go (judged b p) refl q
  where
    go : (j : Judged) → judged b p ≡ j → turned k a j ≡ on a' → Counting z.preferences a'
    go (Judged.given (solved c m u x)) e q =
        subst (Counting z.preferences) (cc q) (counting_counted x z.preferences (none_beyond b z h p c m u x e) a m s)
    go (Judged.given (stopped i)) e q = subst (Counting z.preferences) (cc q) s
    go (Judged.given goal_missed) e q = subst (Counting z.preferences) (cc q) s
    go (Judged.given (rule_missed i)) e q = subst (Counting z.preferences) (cc q) s
    go (Judged.refused n i) e q = absurd (true≢false (cc q))
