-- The weights of the rules that are lost, summed rule by rule.
use mathlib.Core.Path.{◌≡◌, ap, ◌∙◌}
use mathlib.Core.Bool.{Bool, not, cond, ◌&&◌}
use mathlib.Core.List.{List, map}
use Prim.Native.Nat.{ℕ, suc, ◌+◌, ◌*◌, ◌-◌, ◌≤◌, ◌<◌}
use native.Mathlib.Nat.{zero-add, sub-zero}
use native.Mathlib.Omega.{arith}
use lib.Dec.{leb}
use lib.ListN.{length}
use Rattle.lists.specs.Lists.{range, sum}
use Rattle.meaning.specs.Task.{Preference, Task}
use Rattle.meaning.specs.Meaning.{preference_at}
use Rattle.meaning.specs.Monitor.{Monitor}
use Rattle.monitor.specs.Packed.{monitor_at}
use Rattle.losses.specs.Losses.{shows}
use Rattle.losses.specs.Following.{Position, is_lost, lost_here}
use Rattle.lost_run.specs.Run.{SeenBy, lost_of, Rules, Kept}
use Rattle.lost_run.specs.declared.rules.Rule.{Rule}

-- the weight of rule k, where it is lost
abbrev weight_of : Task → Position → ℕ → ℕ
weight_of t p k = cond (is_lost t p k) (preference_at t k).weight 0

-- of the rules from k on
abbrev lost_from : Task → Position → ℕ → ℕ
lost_from t p k = sum (map (weight_of t p) (range k (length t.preferences - k)))

one_more : (t : Task) (p : Position) (k : ℕ) → k < length t.preferences → lost_from t p k ≡ weight_of t p k + lost_from t p (k + 1)
one_more t p k h =
    let e : length t.preferences - k ≡ suc (length t.preferences - (k + 1)) = omega arith in
    ap (λ (n : ℕ). sum (map (weight_of t p) (range k n))) e

none_more : (t : Task) (p : Position) (k : ℕ) → length t.preferences ≤ k → lost_from t p k ≡ 0
none_more t p k h =
    let e : length t.preferences - k ≡ 0 = omega arith in
    ap (λ (n : ℕ). sum (map (weight_of t p) (range k n))) e

-- a rule by what was read of it
lost_one : (q : Preference) (m : Monitor) (r : Rule) (due : Bool) → SeenBy q m r
    → lost_of r due ≡ cond (not q.hard && shows q.kind m.S m.B && due) q.weight 0
lost_one q m r due s = λ z. cond (not (s.hard z) && s.broken z && due) (s.weight z) 0

-- the sum of the first k rules
pub record Summed (ms vs rules l : List ℕ) (closed n k : ℕ) : Type 0 where
  pub within : k ≤ length rules
  pub small : n ≤ k * 4294967296
  pub so_far : (t : Task) (p : Position) → Rules ms vs rules t → Kept t l closed p → n + lost_from t p k ≡ lost_here t p

pub none_yet : (ms vs rules l : List ℕ) (closed : ℕ) → Summed ms vs rules l closed 0 0
none_yet ms vs rules l closed =
    record { within = omega arith; small = omega arith; so_far = λ t p R K. all t p }
  where
    all : (t : Task) (p : Position) → 0 + lost_from t p 0 ≡ lost_here t p
    all t p = zero-add (lost_from t p 0) ∙ ap (λ (n : ℕ). sum (map (weight_of t p) (range 0 n))) (sub-zero (length t.preferences))

module _ (ms vs rules l : List ℕ) (closed n k : ℕ) (S : Summed ms vs rules l closed n k) where
  pub goes_on : k < length rules → (r : Rule) → ((t : Task) → Rules ms vs rules t → SeenBy (preference_at t k) (monitor_at l k) r)
      → (a : ℕ) → a ≡ lost_of r (leb closed k) → a < 4294967296 → Summed ms vs rules l closed (n + a) (k + 1)
  goes_on h r seen a e few =
      record { within = omega arith; small = omega (arith, S.small); so_far = λ t p R K. next t p R K }
    where
      next : (t : Task) (p : Position) → Rules ms vs rules t → Kept t l closed p → n + a + lost_from t p (k + 1) ≡ lost_here t p
      next t p R K =
          let below : k < length t.preferences = omega (arith, R.many) in
          let q : Preference = preference_at t k in
          let due : lost_of r (leb closed k) ≡ weight_of t p k =
          lost_one q (monitor_at l k) r (leb closed k) (seen t R)
          ∙ (λ z. cond (not q.hard && shows q.kind (K.monitors k below z).S (K.monitors k below z).B && leb (K.same z) k) q.weight 0) in
          let more : lost_from t p k ≡ weight_of t p k + lost_from t p (k + 1) = one_more t p k below in
          let before : n + lost_from t p k ≡ lost_here t p = S.so_far t p R K in
          let same : a ≡ weight_of t p k = e ∙ due in
          omega arith

  pub summed : length rules ≤ k → (t : Task) (p : Position) → Rules ms vs rules t → Kept t l closed p → n ≡ lost_here t p
  summed h t p R K =
      let none : lost_from t p k ≡ 0 = none_more t p k (omega (arith, R.many)) in
      let all : n + lost_from t p k ≡ lost_here t p = S.so_far t p R K in
      omega arith
