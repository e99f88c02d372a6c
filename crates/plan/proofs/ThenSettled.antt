-- Walk followed by settle gives the judged plan: what a plan of known steps comes to is allowed, and its amounts are those of the verdict.
use mathlib.Core.Path.{◌≡◌, refl, sym, ap, ap₂, ◌∙◌}
use mathlib.Core.Bool.{Bool, true, false, not, cond}
use mathlib.Core.List.{List, [], ◌∷◌, map}
use Prim.Native.Nat.{ℕ, zero, suc, ◌+◌, ◌-◌, ◌≤◌, ◌<◌}
use native.Mathlib.Nat.{add-zero, zero-add}
use native.Mathlib.Omega.{arith}
use lib.Dec.{T, leb, ltb}
use lib.IntN.{pos, ◌-ℤ◌}
use lib.ListN.{length, get_or, length-map, get_or-eq_default}
use borrow.Author.Tests.{le-leb, leb-true}
use Rattle.lists.specs.Lists.{all, any, range, sum}
use Rattle.meaning.specs.Task.{Preference, Task}
use Rattle.task.specs.File
use Rattle.task.specs.File.{task_of}
use Rattle.task.specs.Spelling.{spellable}
use Rattle.task.specs.Limits.{MAX_COST}
use Rattle.meaning.specs.Literals.{literals}
use Rattle.task.specs.Check
use Rattle.task.specs.Check.{Answer, check}
use Rattle.meaning.specs.Meaning.{no_preference, opening, runs, final, keeps_rules, is_true, cost, is_met, met_weight, missed_weight, metric, utility}
use Rattle.meaning.specs.Verdict.{met_set, verdict_by, verdict}
use Rattle.lists.proofs.Entries.{get_d_map}
use Rattle.task.proofs.Amounts.{cost_bound}
use Rattle.task.proofs.Spelled.{Spelling, accepted_spelling}
use Rattle.plan.specs.Judged.{Judged, steps_known, judged_by, judged}
use Rattle.plan.specs.Walked.{without_amounts, without_worth, walked}
use Rattle.settling.specs.Settled.{worth, weight_of, worth_of, arguments_allowed, settled}
use Rattle.plan.specs.ThenSettled.{priced, with_amounts, then_settle}

-- What a plan of known steps comes to is allowed

-- no preference from P on is met
met_below : (t : Task) (p : List ℕ) (k n : ℕ) → length t.preferences ≤ k → any (met_set t p) (range k n) ≡ false
met_below t p k zero h = refl
met_below t p k (suc n) h =
    let none : met_set t p k ≡ false =
    get_or-eq_default (map (is_met t p) t.preferences) false {n = k} (omega (arith, length-map t.preferences (is_met t p))) in
    rw none (met_below t p (k + 1) n (omega arith))

plan_allowed : (t : Task) → T (spellable t) → (p : List ℕ) → length p ≤ 2048 → arguments_allowed (length t.preferences) (cost t p) (met_set t p) ≡ true
plan_allowed t s p short =
    let P : ℕ = length t.preferences in
    let c : cost t p ≤ MAX_COST = omega (arith, cost_bound t s p) in
    rw (le-leb (cost t p) MAX_COST c, met_below t p P (64 - P) (omega arith))

-- Its amounts

weights_of : (h : Preference → ℕ) (chosen : ℕ → Bool) (k : ℕ) (qs : List Preference)
    → ((j : ℕ) → j < length qs → cond (chosen (k + j)) (get_or qs j no_preference).weight 0 ≡ h (get_or qs j no_preference))
    → weight_of chosen k qs ≡ sum (map h qs)
weights_of h chosen k [] m = refl
weights_of h chosen k (q ∷ qs) m =
    let first : cond (chosen k) q.weight 0 ≡ h q = ap (λ (n : ℕ). cond (chosen n) q.weight 0) (sym (add-zero k)) ∙ m 0 (omega arith) in
    ap₂ ◌+◌ first
    (weights_of h chosen (k + 1) qs
    (λ j l. ap (λ (n : ℕ). cond (chosen n) (get_or qs j no_preference).weight 0) (shift k j) ∙ m (suc j) (omega arith)))
  where
    shift : (k j : ℕ) → k + 1 + j ≡ k + suc j
    shift k j = omega arith

module _ (t : Task) (p : List ℕ) where
  met_at : (j : ℕ) → j < length t.preferences → met_set t p (0 + j) ≡ is_met t p (get_or t.preferences j no_preference)
  met_at j h = ap (met_set t p) (zero-add j) ∙ get_d_map (is_met t p) t.preferences j no_preference false h

  met_is : weight_of (met_set t p) 0 t.preferences ≡ met_weight t p
  met_is =
      weights_of (λ (q : Preference). cond (is_met t p q) q.weight 0) (met_set t p) 0 t.preferences
      (λ j h. ap (λ (b : Bool). cond b (get_or t.preferences j no_preference).weight 0) (met_at j h))

  missed_is : weight_of (λ (k : ℕ). not (met_set t p k)) 0 t.preferences ≡ missed_weight t p
  missed_is =
      weights_of (λ (q : Preference). cond (is_met t p q) 0 q.weight) (λ (k : ℕ). not (met_set t p k)) 0 t.preferences
      (λ j h. ap (λ (b : Bool). cond (not b) (get_or t.preferences j no_preference).weight 0) (met_at j h)
      ∙ other (is_met t p (get_or t.preferences j no_preference)) (get_or t.preferences j no_preference).weight)
    where
      other : (b : Bool) (w : ℕ) → cond (not b) w 0 ≡ cond b 0 w
      other true w = refl
      other false w = refl

  amounts_are : worth_of t (cost t p) (met_set t p) ≡ worth (metric t p) (utility t p)
  amounts_are = ap₂ worth (ap (λ (n : ℕ). cost t p + n) missed_is) (ap (λ (n : ℕ). pos n -ℤ pos (cost t p)) met_is)

-- Walk followed by settle gives what judge gave

module _ (b p : List ℕ) (z : File.Sizes) (h : check b ≡ Check.accepted z) (short : length p ≤ 2048) where
  abbrev t : Task
  t = task_of b

  pub settled_plan : settled b (cost t p) (met_set t p) ≡ worth (metric t p) (utility t p)
  unfolding settled
  settled_plan =
      let s : Spelling b z = accepted_spelling b z h in
      let same : z.preferences ≡ length t.preferences = sym (ap (λ (x : File.Sizes). x.preferences) s.sized) in
      rw (h, same, plan_allowed t s.spelling p short) (amounts_are t p)

  verdict_settled : with_amounts b (without_amounts (verdict t p)) ≡ Judged.given (verdict t p)
  unfolding verdict
  verdict_settled = go (runs t (opening t) p) (is_true (final t p) t.goal) (keeps_rules t p)
    where
      go : (x y k : Bool) → with_amounts b (without_amounts (verdict_by t p x y k)) ≡ Judged.given (verdict_by t p x y k)
      go true true true = ap (priced (cost t p) (met_set t p)) settled_plan
      go true true false = refl
      go true false k = refl
      go false y k = refl

pub walk_then_settle : (b p : List ℕ) → then_settle b (walked b p) ≡ judged b p
unfolding judged walked
walk_then_settle b p = go (check b) refl
  where
    go : (a : Answer) → check b ≡ a → then_settle b (without_worth (literals (task_of b) p) (judged_by b p a)) ≡ judged_by b p a
    go (Check.refused n i) h = refl
    go (Check.accepted z) h = steps (leb (length p) 2048) refl (all (λ (k : ℕ). ltb k z.actions) p)
      where
        steps : (x : Bool) → leb (length p) 2048 ≡ x → (y : Bool)
            → then_settle b (without_worth (literals (task_of b) p) (cond x (cond y (Judged.given (verdict (task_of b) p)) (Judged.refused 11 (steps_known z.actions p))) (Judged.refused 10 0)))
            ≡ cond x (cond y (Judged.given (verdict (task_of b) p)) (Judged.refused 11 (steps_known z.actions p))) (Judged.refused 10 0)
        steps true l true = verdict_settled b p z h (leb-true (length p) 2048 l)
        steps true l false = refl
        steps false l y = refl
