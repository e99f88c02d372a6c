-- What a verdict says of its plan.
use mathlib.Core.Path.{◌≡◌, refl, sym, ap, ap₂, ◌∙◌, subst}
use mathlib.Core.Logic.{◌↔◌}
use mathlib.Core.Bool.{Bool, true, false, cond, ◌&&◌, true≢false}
use mathlib.Core.List.{List, [], ◌∷◌, map}
use Prim.Native.Nat.{ℕ, suc, ◌+◌, ◌<◌}
use native.Mathlib.Omega.{arith}
use lib.Dec.{T}
use lib.IntN.{ℤ, pos, ◌+ℤ◌, pos-+ℤ-pos, +ℤ_assoc, -ℤ-+ℤ_cancel}
use lib.ListN.{length, get_or, take}
use Rattle.lists.specs.Lists.{sum, last_or}
use Rattle.meaning.specs.Task.{Task, Preference}
use Rattle.meaning.specs.Meaning.{State, is_true, opening, after, action_at, applies, runs, reached, final, solves, cost, no_preference, is_met, is_kept, keeps_rules, missed_weight, met_weight}
use Rattle.meaning.specs.Meaning.{metric, utility}
use Rattle.meaning.specs.Verdict.{solved, rule_missed, steps_applied, met_set, missed_rule, verdict_by, verdict}
use Rattle.lists.proofs.First.{Lowest, lowest}

-- solved is the verdict on the plans that solve, and on no others
pub solved_iff : (t : Task) (p : List ℕ) → (verdict t p ≡ solved (cost t p) (metric t p) (utility t p) (met_set t p)) ↔ T (solves t p)
unfolding verdict
solved_iff t p = go (runs t (opening t) p) (is_true (final t p) t.goal) (keeps_rules t p)
  where
    go : (a b c : Bool) → (verdict_by t p a b c ≡ solved (cost t p) (metric t p) (utility t p) (met_set t p)) ↔ T (a && b && c)
    go true true true = (λ e. tt, λ h. refl)
    go true true false = (λ e. true≢false (cc), λ h. absurd h)
    go true false true = (λ e. true≢false (cc), λ h. absurd h)
    go true false false = (λ e. true≢false (cc), λ h. absurd h)
    go false b c = (λ e. true≢false (cc), λ h. absurd h)

-- where the verdict is solved with metric m, the plan solves and m is its metric
pub solved_only : (t : Task) (p : List ℕ) (c m : ℕ) (u : ℤ) (s : ℕ → Bool) → verdict t p ≡ solved c m u s → T (solves t p) × (metric t p ≡ m)
unfolding verdict
solved_only t p c m u s = go (runs t (opening t) p) (is_true (final t p) t.goal) (keeps_rules t p)
  where
    go : (a b k : Bool) → verdict_by t p a b k ≡ solved c m u s → T (a && b && k) × (metric t p ≡ m)
    go true true true e = (tt, cc)
    go true true false e = absurd (true≢false (cc))
    go true false true e = absurd (true≢false (cc))
    go true false false e = absurd (true≢false (cc))
    go false b k e = absurd (true≢false (cc))

-- p stops at step i from s on: the steps before it apply in turn, and it doesn't apply
pub record Stops (t : Task) (s : State) (p : List ℕ) (i : ℕ) : Type 0 where
  pub within : i < length p
  pub before : runs t s (take i p) ≡ true
  pub here : applies t (last_or s (reached t s (take i p))) (get_or p i 0) ≡ false

pub stops : (t : Task) (s : State) (p : List ℕ) → runs t s p ≡ false → Stops t s p (steps_applied t s p)
stops t s [] e = absurd (true≢false e)
stops t s (k ∷ ks) e = go (applies t s k) refl e (stops t (after s (action_at t k)) ks)
  where
    go : (b : Bool) → applies t s k ≡ b → (b && runs t (after s (action_at t k)) ks) ≡ false
        → (runs t (after s (action_at t k)) ks ≡ false → Stops t (after s (action_at t k)) ks (steps_applied t (after s (action_at t k)) ks))
        → Stops t s (k ∷ ks) (cond b (suc (steps_applied t (after s (action_at t k)) ks)) 0)
    go true a e rest =
        let r : Stops t (after s (action_at t k)) ks (steps_applied t (after s (action_at t k)) ks) = rest e in
        record { within = omega (arith, r.within); before = ap₂ ◌&&◌ a r.before; here = r.here }
    go false a e rest = record { within = omega arith; before = refl; here = a }

-- where the verdict is rule missed, the steps apply, the goal holds, and the number is that of the lowest hard preference missed
pub rule_missed_only : (t : Task) (p : List ℕ) (i : ℕ) → verdict t p ≡ rule_missed i
    → T (runs t (opening t) p && is_true (final t p) t.goal) × Lowest (is_kept t p) t.preferences no_preference i
unfolding verdict
rule_missed_only t p i = go (runs t (opening t) p) (is_true (final t p) t.goal) (keeps_rules t p) refl
  where
    go : (a b k : Bool) → keeps_rules t p ≡ k → verdict_by t p a b k ≡ rule_missed i
        → T (a && b) × Lowest (is_kept t p) t.preferences no_preference i
    go true true true q e = absurd (true≢false (cc))
    go true true false q e =
        let same : missed_rule t p ≡ i = cc in
        (tt, subst (Lowest (is_kept t p) t.preferences no_preference) same (lowest (is_kept t p) t.preferences no_preference q))
    go true false true q e = absurd (true≢false (cc))
    go true false false q e = absurd (true≢false (cc))
    go false b k q e = absurd (true≢false (cc))

-- every weight is that of a met preference or of a missed one
module _ (t : Task) (p : List ℕ) where
  abbrev met_sum : List Preference → ℕ
  met_sum qs = sum (map (λ (q : Preference). cond (is_met t p q) q.weight 0) qs)

  abbrev missed_sum : List Preference → ℕ
  missed_sum qs = sum (map (λ (q : Preference). cond (is_met t p q) 0 q.weight) qs)

  abbrev weight_sum : List Preference → ℕ
  weight_sum qs = sum (map (λ (q : Preference). q.weight) qs)

  weights : (qs : List Preference) → met_sum qs + missed_sum qs ≡ weight_sum qs
  weights [] = refl
  weights (q ∷ qs) = go (is_met t p q) (weights qs)
    where
      go : (b : Bool) → met_sum qs + missed_sum qs ≡ weight_sum qs
          → cond b q.weight 0 + met_sum qs + (cond b 0 q.weight + missed_sum qs) ≡ q.weight + weight_sum qs
      go true e = omega arith
      go false e = omega arith

  -- so utility and metric together are all the weights
  pub weights_shared : utility t p +ℤ pos (metric t p) ≡ pos (weight_sum t.preferences)
  weights_shared =
      ap (λ (m : ℤ). utility t p +ℤ m) (sym (pos-+ℤ-pos (cost t p) (missed_weight t p)))
      ∙ sym (+ℤ_assoc (utility t p) (pos (cost t p)) (pos (missed_weight t p)))
      ∙ ap (λ (m : ℤ). m +ℤ pos (missed_weight t p)) (-ℤ-+ℤ_cancel (pos (met_weight t p)) (pos (cost t p)))
      ∙ pos-+ℤ-pos (met_weight t p) (missed_weight t p)
      ∙ ap pos (weights t.preferences)
