-- Stopped is answered as in judging the translated task.
use mathlib.Core.Path.{◌≡◌}
use mathlib.Core.Logic.{◌↔◌}
use mathlib.Core.Bool.{Bool, true, false, cond, true≢false}
use mathlib.Core.List.{List}
use Prim.Native.Nat.{ℕ}
use Rattle.meaning.specs.Task.{Task}
use Rattle.meaning.specs.Meaning.{opening, runs, final, is_true, cost, keeps_rules}
use Rattle.meaning.specs.Verdict
use Rattle.meaning.specs.Verdict.{steps_applied, verdict_by, verdict}
use Rattle.classical.specs.Translation.{translated}
use Rattle.losses.specs.Losses.{lost, stopped, lost_weight, lost_after}

-- stopped where judging the translated task stops, at the same step
pub stopped_iff : (t : Task) (xs : List ℕ) (i : ℕ) → (lost_after t xs ≡ stopped i) ↔ (verdict (translated t) xs ≡ Verdict.stopped i)
unfolding lost_after verdict
stopped_iff t xs i = go (runs c (opening c) xs) (is_true (final c xs) c.goal) (keeps_rules c xs)
  where
    c : Task
    c = translated t

    k : ℕ
    k = steps_applied c (opening c) xs

    go : (steps goal rules : Bool)
        → (cond steps (lost (cost c xs) (lost_weight t xs)) (stopped k) ≡ stopped i) ↔ (verdict_by c xs steps goal rules ≡ Verdict.stopped i)
    go true true true = (λ e. absurd (true≢false (cc e)), λ e. absurd (true≢false (cc e)))
    go true true false = (λ e. absurd (true≢false (cc e)), λ e. absurd (true≢false (cc e)))
    go true false rules = (λ e. absurd (true≢false (cc e)), λ e. absurd (true≢false (cc e)))
    go false goal rules = (λ e. cc e, λ e. cc e)
