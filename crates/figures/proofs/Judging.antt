-- Each plan of a week is judged as judge does, and the first faulty one is what its name says.
use mathlib.Core.Path.{◌≡◌, refl, sym, ◌∙◌}
use mathlib.Core.Bool.{Bool, true, false, not, cond, ◌&&◌, ◌||◌, true≢false}
use mathlib.Core.List.{List, [], ◌∷◌}
use Prim.Native.Nat.{ℕ, ◌<◌}
use native.Mathlib.Omega.{arith}
use lib.Dec.{T, leb, ltb, le→leb, nltb→le}
use lib.ListN.{length, get_or, take}
use borrow.Author.Tests.{ltb-true, ltb-false, lt-leb, le-leb}
use Rattle.lists.specs.Lists.{all, any, take_until}
use Rattle.task.specs.File.{Sizes, task_of}
use Rattle.task.specs.Check
use Rattle.task.specs.Check.{check}
use Rattle.meaning.specs.Verdict.{Verdict, verdict}
use Rattle.lists.proofs.Tests.{as_t, none_of, and_both}
use Rattle.plan.specs.Judged.{given, refused, judged, steps_known}
use Rattle.figures.specs.Week.{is_long, has_unknown, is_faulty, fault_number}

at_most : (m n : ℕ) → leb m n ≡ not (ltb n m)
at_most m n = go (ltb n m) refl
  where
    go : (b : Bool) → ltb n m ≡ b → leb m n ≡ not b
    go true e = lt-leb m n (ltb-true n m e)
    go false e = le-leb m n (ltb-false n m e)

below : (m n : ℕ) → ltb m n ≡ not (leb n m)
below m n = go (ltb m n) refl
  where
    go : (b : Bool) → ltb m n ≡ b → b ≡ not (leb n m)
    go true e = rw (lt-leb n m (ltb-true m n e))
    go false e = rw (le-leb n m (ltb-false m n e))

all_below : (A : ℕ) (p : List ℕ) → all (λ (k : ℕ). ltb k A) p ≡ not (has_unknown A p)
all_below A [] = refl
all_below A (k ∷ p) = rw (below k A, all_below A p) (go (leb A k) (has_unknown A p))
  where
    go : (a b : Bool) → (not a && not b) ≡ not (a || b)
    go true b = refl
    go false b = refl

-- where judge finds the fault of a plan
abbrev pub fault_place : ℕ → List ℕ → ℕ
fault_place A p = cond (is_long p) 0 (steps_known A p)

-- a faulty plan is refused, and by the same number; any other has its verdict
pub judged_as : (b : List ℕ) (z : Sizes) → check b ≡ Check.accepted z → (p : List ℕ)
    → judged b p ≡ cond (is_faulty z.actions p) (refused (fault_number p) (fault_place z.actions p)) (given (verdict (task_of b) p))
unfolding judged
judged_as b z h p = rw (h, at_most (length p) 2048, all_below z.actions p) (by (is_long p) (has_unknown z.actions p))
  where
    by : (long unknown : Bool)
        → cond (not long) (cond (not unknown) (given (verdict (task_of b) p)) (refused 11 (steps_known z.actions p))) (refused 10 0)
        ≡ cond (long || unknown) (refused (cond long 10 11) (cond long 0 (steps_known z.actions p))) (given (verdict (task_of b) p))
    by true unknown = refl
    by false true = refl
    by false false = refl

-- so the verdict of a judged plan is the plan's, and it is not faulty
pub judged_only : (b : List ℕ) (z : Sizes) → check b ≡ Check.accepted z → (p : List ℕ) (v : Verdict) → judged b p ≡ given v
    → (is_faulty z.actions p ≡ false) × (verdict (task_of b) p ≡ v)
judged_only b z h p v e = go (is_faulty z.actions p) (sym (judged_as b z h p) ∙ e)
  where
    go : (x : Bool) → cond x (refused (fault_number p) (fault_place z.actions p)) (given (verdict (task_of b) p)) ≡ given v
        → (x ≡ false) × (verdict (task_of b) p ≡ v)
    go true q = absurd (true≢false (cc q))
    go false q = (refl, cc q)

pub not_long : (A : ℕ) (p : List ℕ) → T (not (is_faulty A p)) → T (leb (length p) 2048)
not_long A p t = go (is_long p) refl t
  where
    go : (c : Bool) → is_long p ≡ c → T (not (c || has_unknown A p)) → T (leb (length p) 2048)
    go true e t = absurd t
    go false e t = le→leb (length p) 2048 (nltb→le 2048 (length p) (rw e tt))

-- the first that passes a test: it passes, and none before it does
pub record First {A : Type 0} (p : A → Bool) (d : A) (xs : List A) (k : ℕ) : Type 0 where
  pub within : k < length xs
  pub here : T (p (get_or xs k d))
  pub none_before : T (none_of p (take k xs))

pub first : {A : Type 0} (p : A → Bool) (d : A) (xs : List A) → T (any p xs) → First p d xs (length (take_until p xs))
first p d [] t = absurd t
first {A} p d (x ∷ xs) t = go (p x) refl t (first p d xs)
  where
    go : (b : Bool) → p x ≡ b → T (b || any p xs) → (T (any p xs) → First p d xs (length (take_until p xs)))
        → First p d (x ∷ xs) (length (cond b [] (x ∷ take_until p xs)))
    go true e t later = record { within = omega arith; here = as_t e; none_before = tt }
    go false e t later =
        let r : First p d xs (length (take_until p xs)) = later t in
        let here : T (not (p x)) = rw e tt in
        record { within = omega (arith, r.within); here = r.here; none_before = and_both (not (p x)) (none_of p (take (length (take_until p xs)) xs)) here r.none_before }
