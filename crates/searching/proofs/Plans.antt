-- The plan that is read from the origins, and costs that stay small.
use mathlib.Core.Path.{◌≡◌, refl, sym, ◌∙◌, ap, ap₂}
use mathlib.Core.Bool.{Bool, true, false, cond, ◌&&◌, ◌||◌, and-true, and_assoc}
use mathlib.Core.List.{List, [], ◌∷◌, ◌++◌}
use Prim.Native.Nat.{ℕ, zero, suc, ◌+◌, ◌*◌, ◌<◌, ◌≤◌}
use native.Mathlib.Nat.{not-suc-le-zero, le_of_suc-le-suc, mul-le-mul_right}
use native.Mathlib.Omega.{arith}
use lib.Dec.{eqb}
use lib.ListN.{length, length-append}
use borrow.Author.Tests.{eqb-true, eqb-false}
use Rattle.lists.specs.Lists.{singleton, last_or}
use Rattle.meaning.specs.Task.{Task}
use Rattle.meaning.specs.Meaning.{State, opening, after, action_at, applies, runs, reached, final, cost}
use Rattle.searching.specs.Search.{Node, node_at, plan_from}
use Rattle.searching.proofs.Invariant.{Ready, Linked, rooted, depth}

-- A list with one step more

module _ (t : Task) (k : ℕ) where
  runs_more : (s : State) (p : List ℕ) → runs t s (p ++ singleton k) ≡ (runs t s p && applies t (last_or s (reached t s p)) k)
  runs_more s [] = and-true (applies t s k)
  runs_more s (a ∷ p) =
      let r : State = after s (action_at t a) in
      ap (λ (b : Bool). applies t s a && b) (runs_more r p) ∙ sym (and_assoc (applies t s a) (runs t r p) (applies t (last_or r (reached t r p)) k))

  end_more : (s : State) (p : List ℕ) → last_or s (reached t s (p ++ singleton k)) ≡ after (last_or s (reached t s p)) (action_at t k)
  end_more s [] = refl
  end_more s (a ∷ p) = end_more (after s (action_at t a)) p

  cost_more : (p : List ℕ) → cost t (p ++ singleton k) ≡ cost t p + (action_at t k).cost
  cost_more [] = omega arith
  cost_more (a ∷ p) = omega (arith, cost_more p)

-- p runs from the opening state to the state of x, for the cost of x
pub record Leads (t : Task) (p : List ℕ) (x : Node) : Type 0 where
  pub run : runs t (opening t) p ≡ true
  pub end : final t p ≡ x.state
  pub paid : cost t p ≡ x.cost

module _ (t : Task) (limit : ℕ) (ns : List Node) (taken : ℕ → Bool) (done : ℕ → ℕ → Type 0) (m : ℕ) (R : Ready t limit ns taken done m) where
  leads_first : (i : ℕ) → i ≡ 0 → Leads t [] (node_at ns i)
  leads_first i q = rw (ap (node_at ns) q ∙ R.first) (record { run = refl; end = refl; paid = refl })

  pub leads_on : (p : List ℕ) (x : Node) → Leads t p (node_at ns x.origin) → Linked t ns x → Leads t (p ++ singleton x.action) x
  leads_on p x L k =
      record {
        run =
            runs_more t x.action (opening t) p
            ∙ ap₂ ◌&&◌ L.run (ap (λ (s : State). applies t s x.action) L.end ∙ k.applied);
        end = end_more t x.action (opening t) p ∙ ap (λ (s : State). after s (action_at t x.action)) L.end ∙ sym k.leads;
        paid = omega (arith, cost_more t x.action p, L.paid, k.costs);
      }

  pub leads : (n i : ℕ) → i < length ns → rooted ns n i ≡ true → Leads t (plan_from ns n i) (node_at ns i)
  leads zero i h r = leads_first i (eqb-true i 0 r)
  leads (suc n) i h r = go (eqb i 0) refl r (leads n (node_at ns i).origin)
    where
      go : (b : Bool) → eqb i 0 ≡ b → (b || rooted ns n (node_at ns i).origin) ≡ true
          → ((node_at ns i).origin < length ns → rooted ns n (node_at ns i).origin ≡ true
          → Leads t (plan_from ns n (node_at ns i).origin) (node_at ns (node_at ns i).origin))
          → Leads t (cond b [] (plan_from ns n (node_at ns i).origin ++ singleton (node_at ns i).action)) (node_at ns i)
      go true e r f = leads_first i (eqb-true i 0 e)
      go false e r f =
          let l = R.linked i h (eqb-false i 0 e) in
          leads_on (plan_from ns n (node_at ns i).origin) (node_at ns i) (f (R.within (node_at ns i).origin l.0) r) l.1

-- Its length

pub plan_short : (ns : List Node) (n i : ℕ) → length (plan_from ns n i) ≤ n
plan_short ns zero i = omega arith
plan_short ns (suc n) i = go (eqb i 0) (plan_short ns n (node_at ns i).origin)
  where
    go : (b : Bool) → length (plan_from ns n (node_at ns i).origin) ≤ n
        → length (cond b [] (plan_from ns n (node_at ns i).origin ++ singleton (node_at ns i).action)) ≤ suc n
    go true h = omega arith
    go false h = omega (arith, length-append (plan_from ns n (node_at ns i).origin) (singleton (node_at ns i).action))

-- more origins than needed change nothing
pub plan_steady : (ns : List Node) (n l i : ℕ) → n ≤ l → rooted ns n i ≡ true → plan_from ns l i ≡ plan_from ns n i
plan_steady ns zero zero i h r = refl
plan_steady ns zero (suc l) i h r = rw r
plan_steady ns (suc n) zero i h r = absurd (not-suc-le-zero h)
plan_steady ns (suc n) (suc l) i h r = go (eqb i 0) r (plan_steady ns n l (node_at ns i).origin (le_of_suc-le-suc h))
  where
    go : (b : Bool) → (b || rooted ns n (node_at ns i).origin) ≡ true
        → (rooted ns n (node_at ns i).origin ≡ true → plan_from ns l (node_at ns i).origin ≡ plan_from ns n (node_at ns i).origin)
        → cond b [] (plan_from ns l (node_at ns i).origin ++ singleton (node_at ns i).action)
        ≡ cond b [] (plan_from ns n (node_at ns i).origin ++ singleton (node_at ns i).action)
    go true r f = refl
    go false r f = ap (λ (p : List ℕ). p ++ singleton (node_at ns i).action) (f r)

-- Costs: m turns lead to costs of at most m actions

module _ (t : Task) (C : ℕ) (most : (k : ℕ) → (action_at t k).cost ≤ C) where
  cost_steps : (p : List ℕ) → cost t p ≤ length p * C
  cost_steps [] = omega arith
  cost_steps (k ∷ p) = omega (arith, most k, cost_steps p)

  pub cost_most : (limit : ℕ) (ns : List Node) (taken : ℕ → Bool) (done : ℕ → ℕ → Type 0) (m : ℕ) → Ready t limit ns taken done m
      → (i : ℕ) → i < length ns → (node_at ns i).cost ≤ m * C
  cost_most limit ns taken done m R i h = go (depth t limit ns taken done m R i h)
    where
      go : (n : ℕ) × (n ≤ m) × (rooted ns n i ≡ true) → (node_at ns i).cost ≤ m * C
      go (n, l, r) =
          let p : length (plan_from ns n i) ≤ m = omega (arith, plan_short ns n i) in
          omega (arith, (leads t limit ns taken done m R n i h r).paid, cost_steps (plan_from ns n i), mul-le-mul_right C p)
