-- A plan run step by step comes to the verdict on it.
use mathlib.Core.Path.{◌≡◌, refl, sym, ap, ap₂, ◌∙◌, fun_ext, subst⁻¹}
use mathlib.Core.Bool.{Bool, true, false, not, cond, ◌||◌}
use mathlib.Core.List.{List, [], ◌∷◌, map}
use Rattle.std.specs.Prelude.{Err}
use Prim.Native.Nat.{ℕ, suc, ◌+◌, ◌*◌, ◌≤◌, ◌<◌}
use native.Mathlib.Nat.{add-zero, zero-add}
use native.Mathlib.Numerals.{add-one}
use native.Mathlib.Omega.{arith}
use lib.Dec.{ltb, ltb→lt}
use lib.ListN.{length, drop, get_or, drop_of_length-le}
use lib.Seq.{drop-cons}
use Rattle.lists.specs.Lists.{all, first_failing, last_or}
use Rattle.meaning.specs.Task.{Task, Action, Preference}
use Rattle.meaning.specs.Meaning.{State as Facts, is_true, opening, after, action_at, applies, runs, reached, final, keeps_rules, cost, seen, preference_at}
use Rattle.meaning.specs.Literals.{looked_at, looked_preferences, looked_effects, looked_from, literals}
use Rattle.meaning.specs.Monitor.{Monitor, fresh, step}
use Rattle.meaning.specs.Verdict.{steps_applied, met_set, missed_rule, verdict_by, verdict}
use Rattle.lists.proofs.Tests.{all_at}
use Rattle.meaning.proofs.Watched.{step_all, watch_all, accepting_watched}
use Rattle.state.specs.Member.{member}
use Rattle.state.specs.declared.State.{State}
use Rattle.monitor.specs.Packed.{monitor_at}
use Rattle.monitors.specs.Monitors.{MOST_LOOKED, PreferencesFrom, Watched}
use Rattle.plan.specs.Walked.{Walk, solved, stopped, goal_missed, rule_missed, given, without_amounts}
use Rattle.layout.specs.Actions.{AllBelow}
use Rattle.plan.specs.Steps.{state_of, StepTaken, StepAnswer, solved_by, last_verdict, MonitorsAre, walked_on, Start}
use Rattle.plan.specs.declared.steps.Places.{Places}
use Rattle.plan.specs.declared.steps.Position.{Position}
use Rattle.monitors.proofs.TaskRead.{preferences_there}

-- the verdict on the steps from step i on, in state σ, with monitors μ and cost c so far
abbrev pub verdict_from : Task → Facts → (Preference → Monitor) → ℕ → ℕ → List ℕ → Walk
verdict_from t σ μ c i [] = last_verdict t σ μ c
verdict_from t σ μ c i (k ∷ ks) =
    cond (applies t σ k) (verdict_from t (after σ (action_at t k)) (step_all false μ σ) (c + (action_at t k).cost) (i + 1) ks) (stopped i)

-- with the amounts as they come out
abbrev outcome : Task → Facts → (Preference → Monitor) → List ℕ → ℕ → ℕ → Walk
outcome t σ μ p c i =
    cond (runs t σ p) (cond (is_true (last_or σ (reached t σ p)) t.goal) (solved_by t (watch_all t μ σ p) c) goal_missed) (stopped i)

step_by_step : (t : Task) (σ : Facts) (μ : Preference → Monitor) (c i : ℕ) (p : List ℕ)
    → verdict_from t σ μ c i p ≡ outcome t σ μ p (c + cost t p) (i + steps_applied t σ p)
step_by_step t σ μ c i [] = ap (λ (n : ℕ). outcome t σ μ [] n i) (sym (add-zero c))
step_by_step t σ μ c i (k ∷ ks) =
    go (applies t σ k) refl (step_by_step t (after σ (action_at t k)) (step_all false μ σ) (c + (action_at t k).cost) (i + 1) ks)
  where
    go : (b : Bool) → applies t σ k ≡ b
        → verdict_from t (after σ (action_at t k)) (step_all false μ σ) (c + (action_at t k).cost) (i + 1) ks
        ≡ outcome t (after σ (action_at t k)) (step_all false μ σ) ks (c + (action_at t k).cost + cost t ks)
        (i + 1 + steps_applied t (after σ (action_at t k)) ks)
        → verdict_from t σ μ c i (k ∷ ks) ≡ outcome t σ μ (k ∷ ks) (c + cost t (k ∷ ks)) (i + steps_applied t σ (k ∷ ks))
    go true a e =
        let costs : c + (action_at t k).cost + cost t ks ≡ c + ((action_at t k).cost + cost t ks) = omega arith in
        let steps : i + 1 + steps_applied t (after σ (action_at t k)) ks ≡ i + suc (steps_applied t (after σ (action_at t k)) ks) = omega arith in
        rw a (e ∙ ap₂ (outcome t (after σ (action_at t k)) (step_all false μ σ) ks) costs steps)
    go false a e = rw a (ap stopped (sym (add-zero i)))

-- monitors that begin fresh come to the amounts of the verdict
pub from_the_opening : (t : Task) (p : List ℕ) → verdict_from t (opening t) (λ (q : Preference). fresh) 0 0 p ≡ without_amounts (verdict t p)
unfolding verdict
from_the_opening t p =
    step_by_step t (opening t) (λ (q : Preference). fresh) 0 0 p
    ∙ ap₂ (outcome t (opening t) (λ (q : Preference). fresh) p) (zero-add (cost t p)) (zero-add (steps_applied t (opening t) p))
    ∙ ap (λ (ok : Preference → Bool). cond (runs t (opening t) p) (cond (is_true (final t p) t.goal)
    (cond (all (λ (q : Preference). not q.hard || ok q) t.preferences)
    (solved (cost t p) (λ (k : ℕ). get_or (map ok t.preferences) k false))
    (rule_missed (first_failing (λ (q : Preference). not q.hard || ok q) t.preferences)))
    goal_missed) (stopped (steps_applied t (opening t) p)))
    (fun_ext (accepting_watched t p))
    ∙ go (runs t (opening t) p) (is_true (final t p) t.goal) (keeps_rules t p)
  where
    go : (a b k : Bool)
        → cond a (cond b (cond k (solved (cost t p) (met_set t p)) (rule_missed (missed_rule t p))) goal_missed) (stopped (steps_applied t (opening t) p))
        ≡ without_amounts (verdict_by t p a b k)
    go true true true = refl
    go true true false = refl
    go true false k = refl
    go false b k = refl

-- The loop over the steps

-- position p and the monitors l stand before step i
pub record Stands (t : Task) (plan : List ℕ) (p : Position) (l : List ℕ) (i : ℕ) : Type 0 where
  pub monitors : Preference → Monitor
  pub are : MonitorsAre t l monitors
  pub same : verdict_from t (member (state_of p)) monitors p.cost i (drop i plan) ≡ without_amounts (verdict t plan)
  pub looks : p.looked + looked_from t (member (state_of p)) (drop i plan) ≡ literals t plan

-- what holds before step i
pub record Running (ms vs : List ℕ) (x : Places) (starts : List ℕ) (s : State) (plan : List ℕ) (p : Position) (l : List ℕ) (i : ℕ) : Type 0 where
  pub steps_left : i ≤ length plan
  pub little : p.cost ≤ i * 4294967296
  pub few_literals : p.looked ≤ i * (17 * MOST_LOOKED)
  pub all_there : length l ≡ 16
  pub stands : (t : Task) → Start ms vs x starts s t → Stands t plan p l i

-- the preferences that the monitors watch
pub watched_ones : {ms vs : List ℕ} {x : Places} {starts : List ℕ} {s : State} {t : Task} → Start ms vs x starts s t
    → PreferencesFrom ms vs x.preferences t.preferences
watched_ones {ms} {vs} {x} {starts} {s} {t} S = preferences_there t ms vs S.placed.spells x.preferences S.placed.preferences

-- each step of a plan of steps below n
pub known : (n : ℕ) (plan : List ℕ) → AllBelow n plan → (i : ℕ) → i < length plan → (k : ℕ) → k ≡ get_or plan i 0 → k < n
known n plan all_Known i h k read =
    subst⁻¹ (λ (j : ℕ). j < n) read (ltb→lt (get_or plan i 0) n (all_at (λ (j : ℕ). ltb j n) plan i 0 all_Known h))

module _ (t : Task) (plan : List ℕ) where
  pub begins : (p : Position) (l : List ℕ) → member (state_of p) ≡ opening t → ((k : ℕ) → monitor_at l k ≡ fresh) → p.cost ≡ 0 → p.looked ≡ 0 → Stands t plan p l 0
  unfolding literals
  begins p l s m c n = record {
    monitors = λ q. fresh;
    are = λ j h. m j;
    same = ap₂ (λ (f : Facts) (n : ℕ). verdict_from t f (λ (q : Preference). fresh) n 0 plan) s c ∙ from_the_opening t plan;
    looks = ap₂ (λ (f : Facts) (n : ℕ). n + looked_from t f plan) s n ∙ zero-add (looked_from t (opening t) plan);
  }

  module _ (p : Position) (l : List ℕ) (i : ℕ) (s : Stands t plan p l i) where
    abbrev σ : Facts
    σ = member (state_of p)

    pub ends : length plan ≤ i → given (last_verdict t σ s.monitors p.cost) (p.looked + looked_from t σ []) ≡ walked_on t plan
    ends h =
        let none : [] ≡ drop i plan = sym (drop_of_length-le plan {i = i} h) in
        let v : last_verdict t σ s.monitors p.cost ≡ without_amounts (verdict t plan) = ap (verdict_from t σ s.monitors p.cost i) none ∙ s.same in
        let n : p.looked + looked_from t σ [] ≡ literals t plan = ap (λ (ks : List ℕ). p.looked + looked_from t σ ks) none ∙ s.looks in
        λ z. given (v z) (n z)

    module _ (h : i < length plan) (k : ℕ) (read : k ≡ get_or plan i 0) where
      abbrev a : Action
      a = action_at t k

      left : k ∷ drop (suc i) plan ≡ drop i plan
      left = ap (λ (j : ℕ). j ∷ drop (suc i) plan) read ∙ sym (drop-cons plan i 0 h)

      here : cond (applies t σ k) (verdict_from t (after σ a) (step_all false s.monitors σ) (p.cost + a.cost) (i + 1) (drop (suc i) plan)) (stopped i)
          ≡ without_amounts (verdict t plan)
      here = ap (verdict_from t σ s.monitors p.cost i) left ∙ s.same

      looks_here : p.looked + (looked_preferences σ t.preferences + looked_at σ a.precondition
          + cond (applies t σ k) (looked_effects σ a.effects + looked_from t (after σ a) (drop (suc i) plan)) 0)
          ≡ literals t plan
      looks_here = ap (λ (ks : List ℕ). p.looked + looked_from t σ ks) left ∙ s.looks

      -- the state has been seen, with m literals looked at
      module _ (p' : Position) (same_state : state_of p' ≡ state_of p) (same_cost : p'.cost ≡ p.cost) (m : ℕ) (more : p'.looked ≡ p.looked + m)
          (l' : List ℕ) (seen_by_all : Watched false σ l l' m t.preferences) where
        same_facts : member (state_of p') ≡ σ
        same_facts = ap member same_state

        pub stops : (n : ℕ) → StepAnswer t k p' (Err n) → given (stopped i) n ≡ walked_on t plan
        stops n (e, looked) =
            let e' : applies t σ k ≡ false = ap (λ (f : Facts). applies t f k) (sym same_facts) ∙ e in
            let precondition : n ≡ p'.looked + looked_at σ a.precondition = looked ∙ ap (λ (f : Facts). p'.looked + looked_at f a.precondition) same_facts in
            let v : stopped i ≡ without_amounts (verdict t plan) = (rw e' at here) in
            let all_looks = (rw e' at looks_here) in
            let count : n ≡ literals t plan = omega (arith, precondition, more, seen_by_all.literals, all_looks) in
            λ z. given (v z) (count z)

        pub goes_on : (q : Position) → StepTaken t k p' q → Stands t plan q l' (i + 1)
        goes_on q leads =
            let e : applies t σ k ≡ true = ap (λ (f : Facts). applies t f k) (sym same_facts) ∙ leads.applying in
            let state : member (state_of q) ≡ after σ a = leads.state ∙ ap (λ (f : Facts). after f a) same_facts in
            let cost : q.cost ≡ p.cost + a.cost = leads.cost ∙ ap (λ (c : ℕ). c + a.cost) same_cost in
            let looked : q.looked ≡ p'.looked + looked_at σ a.precondition + looked_effects σ a.effects =
            leads.looked ∙ ap (λ (f : Facts). p'.looked + looked_at f a.precondition + looked_effects f a.effects) same_facts in
            let rest : looked_from t (member (state_of q)) (drop (i + 1) plan) ≡ looked_from t (after σ a) (drop (suc i) plan) =
            λ z. looked_from t (state z) (drop (add-one i z) plan) in
            let all_looks = (rw e at looks_here) in
            record {
              monitors = step_all false s.monitors σ;
              are = λ j b. seen_by_all.monitors j b
                  ∙ ap (λ (m : Monitor). step (preference_at t j).kind false m (seen (preference_at t j) σ)) (s.are j b);
              same = (λ z. verdict_from t (state z) (step_all false s.monitors σ) (cost z) (i + 1) (drop (add-one i z) plan)) ∙ (rw e at here);
              looks = omega (arith, looked, more, seen_by_all.literals, rest, all_looks);
            }
