-- The line is `paid N` exactly where walk and settle give the plan the metric N.
use mathlib.Core.Path.{◌≡◌, refl, ap, ◌∙◌}
use mathlib.Core.Bool.{Bool, true≢false}
use mathlib.Core.Logic.{◌↔◌}
use mathlib.Core.List.{List}
use Prim.Native.Nat.{ℕ}
use Rattle.plan.specs.Walked.{solved, stopped, goal_missed, rule_missed, Walked, given, walked}
use Rattle.plan.specs.ThenSettled.{priced, then_settle}
use Rattle.settling.specs.Settled.{Settled, worth, settled}
use Rattle.paid.specs.CostIsMetric.{SettledAt}
use Rattle.paid_line.specs.Paid.{Metric, metric, metric_in, metric_of, paid_line, held_to, line_on}
use Rattle.paid_line.proofs.Held.{held_same, paid_for}

-- The metric is what walk and settle give

module _ (b p : List ℕ) (m : ℕ) where
  pub settled_metric : SettledAt b p m → metric_of b p ≡ metric m
  unfolding metric_of
  settled_metric (c, u, met, looked, walks, settles) = rw (walks, settles)

  by_settle : (c : ℕ) (met : ℕ → Bool) (looked : ℕ) → walked b p ≡ given (solved c met) looked
      → (s : Settled) → settled b c met ≡ s → metric_in (priced c met s) ≡ metric m → SettledAt b p m
  by_settle c met looked walks (worth k u) settles e = (c, u, met, looked, walks, cc)
  by_settle c met looked walks (Settled.refused n i) settles e = absurd (true≢false (cc))

  by_walk : (w : Walked) → walked b p ≡ w → metric_in (then_settle b w) ≡ metric m → SettledAt b p m
  by_walk (given (solved c met) looked) walks e = by_settle c met looked walks (settled b c met) refl e
  by_walk (given (stopped i) looked) walks e = absurd (true≢false (cc))
  by_walk (given goal_missed looked) walks e = absurd (true≢false (cc))
  by_walk (given (rule_missed i) looked) walks e = absurd (true≢false (cc))
  by_walk (Walked.refused n i) walks e = absurd (true≢false (cc))

  pub metric_settled : metric_of b p ≡ metric m → SettledAt b p m
  unfolding metric_of
  metric_settled e = by_walk (walked b p) refl e

-- The line

pub equal : (b p : List ℕ) (n : ℕ) → SettledAt b p n → line_on b p n ≡ paid_line n
equal b p n s = ap (λ (x : Metric). held_to x n) (settled_metric b p n s) ∙ held_same n

pub exactly : (b p : List ℕ) (n : ℕ) → (line_on b p n ≡ paid_line n) ↔ SettledAt b p n
exactly b p n = (λ e. metric_settled b p n (paid_for (metric_of b p) n e), equal b p n)
