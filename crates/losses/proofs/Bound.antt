-- What is lost falls by no more than a step costs, and nothing is lost in the goal: so a solution costs at least its cost so far and the lost weights.
use mathlib.Core.Path.{◌≡◌, refl, sym, ◌∙◌, ap, subst}
use mathlib.Core.Logic.{◌≢◌}
use mathlib.Core.Bool.{Bool, true, false, not, cond, ◌&&◌}
use mathlib.Core.List.{List, [], ◌∷◌, ◌++◌, map}
use Prim.Native.Nat.{ℕ, zero, suc, ◌+◌, ◌<◌, ◌≤◌}
use native.Mathlib.Omega.{arith}
use lib.Dec.{T, leb, leb→le, ltb, eqb}
use borrow.Author.Tests.{le-leb, lt-leb, ltb-true, ltb-false, eqb-true, eqb-false}
use Rattle.lists.specs.Lists.{range, sum}
use Rattle.meaning.specs.Task.{Preference, Task, well_formed}
use Rattle.meaning.specs.Meaning.{State, is_true, after, action_at, applies, opening, final, solves, cost, keeps_rules, preference_at, seen}
use Rattle.meaning.specs.Monitor.{Monitor, fresh}
use Rattle.lists.proofs.Tests.{as_t, never, and_left, and_right, and_both}
use Rattle.meaning.proofs.WellFormed.{preference_count}
use Rattle.meaning.proofs.Watched.{step_all}
use Rattle.classical.specs.Translation.{fact_c, translated}
use Rattle.classical.proofs.Simulation.{Simulates, begins}
use Rattle.classical.proofs.Applies.{is_accepting, closer, goal_open}
use Rattle.classical.proofs.Runs.{wins, solves_win}
use Rattle.classical.proofs.Plans.{closer_cost}
use Rattle.losses.specs.Losses.{is_lost, lost_of, lost_in}
use Rattle.losses.proofs.Shown.{shows-losable, shown_not-accepting}
use Rattle.losses.proofs.Stays.{shown_stays}
use Rattle.losses.proofs.Moves.{state_after, shown, Move, by_source, by_end, by_closing, move, Simulated, moved, broken_is}

-- Sums of g and of h over the range below P

module _ (P : ℕ) (g h : ℕ → ℕ) where
  sum-le : (k n : ℕ) → k + n ≡ P → ((i : ℕ) → k ≤ i → i < P → g i ≤ h i) → sum (map g (range k n)) ≤ sum (map h (range k n))
  sum-le k zero e f = omega arith
  sum-le k (suc n) e f =
      let here : g k ≤ h k = f k (omega arith) (omega arith) in
      let rest : sum (map g (range (k + 1) n)) ≤ sum (map h (range (k + 1) n)) = sum-le (k + 1) n (omega arith) (λ i lo hi. f i (omega arith) hi) in
      omega arith

  -- g may be more by a at one number
  sum_but_one : (a o : ℕ) → g o ≤ a + h o → (k n : ℕ) → k + n ≡ P → ((i : ℕ) → i < P → i ≢ o → g i ≤ h i)
      → sum (map g (range k n)) ≤ a + sum (map h (range k n))
  sum_but_one a o at k zero e f = omega arith
  sum_but_one a o at k (suc n) e f = go (eqb k o) refl (sum_but_one a o at (k + 1) n (omega arith) f)
    where
      go : (b : Bool) → eqb k o ≡ b → sum (map g (range (k + 1) n)) ≤ a + sum (map h (range (k + 1) n))
          → g k + sum (map g (range (k + 1) n)) ≤ a + (h k + sum (map h (range (k + 1) n)))
      go true q r =
          let p : k ≡ o = eqb-true k o q in
          let here : g k ≤ a + h k = subst (λ (i : ℕ). g i ≤ a + h i) (sym p) at in
          let rest : sum (map g (range (k + 1) n)) ≤ sum (map h (range (k + 1) n)) = sum-le (k + 1) n (omega arith) (λ i lo hi. f i hi (omega arith)) in
          omega arith
      go false q r =
          let here : g k ≤ h k = f k (omega arith) (eqb-false k o q) in
          omega arith

sum_zeros : (k n : ℕ) → sum (map (λ (i : ℕ). 0) (range k n)) ≡ 0
sum_zeros k zero = refl
sum_zeros k (suc n) = omega (arith, sum_zeros (k + 1) n)

-- what the monitors m show of rule i, where it is soft
abbrev pub counted : Task → (Preference → Monitor) → ℕ → Bool
counted t m i = not (preference_at t i).hard && shown t m i

-- Weights that count where a test holds

weight_le : (a b : Bool) (w : ℕ) → (T a → T b) → cond a w 0 ≤ cond b w 0
weight_le true true w f = omega arith
weight_le true false w f = absurd (f tt)
weight_le false b w f = omega arith

weight_paid : (a g : Bool) (w : ℕ) → (T a → T (not g)) → cond a w 0 ≤ cond g 0 w
weight_paid true true w f = absurd (f tt)
weight_paid true false w f = omega arith
weight_paid false g w f = omega arith

module _ (t : Task) (wf : T (well_formed t)) where
  abbrev c : Task
  c = translated t

  abbrev P : ℕ
  P = preference_count t

  -- What is lost by the monitors

  module _ (m : Preference → Monitor) (r : Bool) (k : ℕ) (σ τ : State) (M : Simulates t m r k σ τ) where
    open_is : (i : ℕ) → i < P → not (τ (fact_c t.facts i)) ≡ leb k i
    open_is i h = go (ltb i k) refl
      where
        go : (b : Bool) → ltb i k ≡ b → not (τ (fact_c t.facts i)) ≡ leb k i
        go true e = ap not (M.closed_is i (ltb-true i k e)) ∙ sym (lt-leb k i (ltb-true i k e))
        go false e = ap not (M.open_is i (ltb-false i k e) h) ∙ sym (le-leb k i (ltb-false i k e))

    pub lost_is : (i : ℕ) → i < P → is_lost t τ i ≡ (counted t m i && leb k i)
    lost_is i h = λ z. not (preference_at t i).hard && broken_is t wf m r k σ τ M i h z && open_is i h z

    closed_lost : P ≤ k → lost_in t τ ≤ 0
    closed_lost all =
        let none : lost_in t τ ≤ sum (map (λ (i : ℕ). 0) (range 0 P)) =
        sum-le P (lost_of t τ) (λ i. 0) 0 P (omega arith) (λ i lo hi. no_weight i hi) in
        omega (arith, sum_zeros 0 P)
      where
        no_weight : (i : ℕ) → i < P → lost_of t τ i ≤ 0
        no_weight i h =
            weight_le (is_lost t τ i) false (preference_at t i).weight
            (λ l. never (and_right (counted t m i) (leb k i) (subst T (lost_is i h) l)) (lt-leb k i (omega arith)))

    goal_lost : T (is_true τ c.goal) → lost_in t τ ≤ 0
    goal_lost h = go (ltb k P) refl
      where
        go : (b : Bool) → ltb k P ≡ b → lost_in t τ ≤ 0
        go true e = absurd (never h (goal_open t wf m r k σ τ M (ltb-true k P e)))
        go false e = closed_lost (ltb-false k P e)

  -- One step

  module _ (m : Preference → Monitor) (r : Bool) (k : ℕ) (σ τ : State) (M : Simulates t m r k σ τ) (j : ℕ) where
    abbrev next : State
    next = after τ (action_at c j)

    -- to monitors that show no less
    shows_on : (m' : Preference → Monitor) (r' : Bool) (σ' : State) → Simulates t m' r' k σ' next → ((i : ℕ) → T (shown t m i) → T (shown t m' i))
        → lost_in t τ ≤ (action_at c j).cost + lost_in t next
    shows_on m' r' σ' M' f =
        let more : lost_in t τ ≤ lost_in t next = sum-le P (lost_of t τ) (lost_of t next) 0 P (omega arith) (λ i lo hi. each i hi) in
        omega arith
      where
        still_counted : (i : ℕ) → T (counted t m i) → T (counted t m' i)
        still_counted i n =
            let soft : Bool = not (preference_at t i).hard in
            and_both soft (shown t m' i) (and_left soft (shown t m i) n) (f i (and_right soft (shown t m i) n))

        still : (i : ℕ) → i < P → T (is_lost t τ i) → T (is_lost t next i)
        still i h l =
            let both : T (counted t m i && leb k i) = subst T (lost_is m r k σ τ M i h) l in
            subst T (sym (lost_is m' r' k σ' next M' i h))
            (and_both (counted t m' i) (leb k i) (still_counted i (and_left (counted t m i) (leb k i) both)) (and_right (counted t m i) (leb k i) both))

        each : (i : ℕ) → i < P → lost_of t τ i ≤ lost_of t next i
        each i h = weight_le (is_lost t τ i) (is_lost t next i) (preference_at t i).weight (still i h)

    -- to rule k closed, for its weight where it is shown broken
    pays : j ≡ closer t (is_accepting t m k) k → k < P → Simulates t m r (suc k) σ next → lost_in t τ ≤ (action_at c j).cost + lost_in t next
    pays e below M' = sum_but_one P (lost_of t τ) (lost_of t next) (action_at c j).cost k paid 0 P (omega arith) (λ i hi other. each i hi other)
      where
        price : (action_at c j).cost ≡ cond (is_accepting t m k) 0 (preference_at t k).weight
        price = ap (λ (n : ℕ). (action_at c n).cost) e ∙ closer_cost t (is_accepting t m k) k below

        missed : T (is_lost t τ k) → T (not (is_accepting t m k))
        missed l =
            let q : Preference = preference_at t k in
            let s : T (shown t m k) = and_right (not q.hard) (shown t m k) (and_left (counted t m k) (leb k k) (subst T (lost_is m r k σ τ M k below) l)) in
            subst T (shown_not-accepting q.kind (shows-losable q.kind (m q).S (m q).B s) (m q)) s

        paid : lost_of t τ k ≤ (action_at c j).cost + lost_of t next k
        paid =
            let enough : lost_of t τ k ≤ cond (is_accepting t m k) 0 (preference_at t k).weight = weight_paid (is_lost t τ k) (is_accepting t m k) (preference_at t k).weight missed in
            omega (arith, price)

        still : (i : ℕ) → i < P → i ≢ k → T (is_lost t τ i) → T (is_lost t next i)
        still i h other l =
            let both : T (counted t m i && leb k i) = subst T (lost_is m r k σ τ M i h) l in
            let lo : k ≤ i = leb→le k i (and_right (counted t m i) (leb k i) both) in
            subst T (sym (lost_is m r (suc k) σ next M' i h))
            (and_both (counted t m i) (leb (suc k) i) (and_left (counted t m i) (leb k i) both) (as_t (le-leb (suc k) i (omega arith))))

        each : (i : ℕ) → i < P → i ≢ k → lost_of t τ i ≤ lost_of t next i
        each i h other = weight_le (is_lost t τ i) (is_lost t next i) (preference_at t i).weight (still i h other)

    step_pays : Move t m r k σ τ j → lost_in t τ ≤ (action_at c j).cost + lost_in t next
    step_pays (by_source a e M') =
        shows_on (step_all false m σ) r (after σ (action_at t j)) M'
        (λ i. shown_stays (preference_at t i).kind false (m (preference_at t i)) (seen (preference_at t i) σ))
    step_pays (by_end a e M') =
        shows_on (step_all true m σ) false σ M' (λ i. shown_stays (preference_at t i).kind true (m (preference_at t i)) (seen (preference_at t i) σ))
    step_pays (by_closing a e b M') = pays a b M'

  -- A whole list

  rest_costs : (τ : State) → Simulated t τ → (ys : List ℕ) → T (wins c τ ys) → lost_in t τ ≤ cost c ys
  rest_costs τ (m, r, k, σ, M) [] h = goal_lost m r k σ τ M h
  rest_costs τ (m, r, k, σ, M) (j ∷ ys) h =
      let τ' : State = after τ (action_at c j) in
      let v : Move t m r k σ τ j = move t wf m r k σ τ M j (and_left (applies c τ j) (wins c τ' ys) h) in
      let here : lost_in t τ ≤ (action_at c j).cost + lost_in t τ' = step_pays m r k σ τ M j v in
      let later : lost_in t τ' ≤ cost c ys = rest_costs τ' (moved t m r k σ τ j v) ys (and_right (applies c τ j) (wins c τ' ys) h) in
      omega arith

  costs : (τ : State) → Simulated t τ → (xs ys : List ℕ) → T (wins c τ (xs ++ ys)) → cost c xs + lost_in t (state_after c τ xs) ≤ cost c (xs ++ ys)
  costs τ N [] ys h = omega (arith, rest_costs τ N ys h)
  costs τ (m, r, k, σ, M) (j ∷ xs) ys h =
      let τ' : State = after τ (action_at c j) in
      let v : Move t m r k σ τ j = move t wf m r k σ τ M j (and_left (applies c τ j) (wins c τ' (xs ++ ys)) h) in
      let later : cost c xs + lost_in t (state_after c τ' xs) ≤ cost c (xs ++ ys) =
      costs τ' (moved t m r k σ τ j v) xs ys (and_right (applies c τ j) (wins c τ' (xs ++ ys)) h) in
      omega arith

  pub bound : (xs ys : List ℕ) → T (solves c (xs ++ ys)) → cost c xs + lost_in t (final c xs) ≤ cost c (xs ++ ys)
  bound xs ys h = costs (opening c) (λ q. fresh, true, 0, opening t, begins t wf) xs ys
      (and_left (wins c (opening c) (xs ++ ys)) (keeps_rules c (xs ++ ys)) (subst T (solves_win c (xs ++ ys)) h))
