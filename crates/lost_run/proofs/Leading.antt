-- One action of a list, from what the code's steps give, is one of the list followed on the source.
use mathlib.Core.Path.{◌≡◌, refl, sym, ap, ◌∙◌, subst}
use mathlib.Core.Bool.{Bool, true, false, not, cond, ◌&&◌, ◌||◌, or-true, or-false}
use mathlib.Core.List.{List}
use Prim.Native.Nat.{ℕ, suc, ◌+◌, ◌*◌, ◌≤◌, ◌<◌}
use native.Mathlib.Numerals.{add-one}
use native.Mathlib.Omega.{arith}
use lib.Dec.{eqb, ltb}
use lib.ListN.{length}
use borrow.Author.Tests.{lt-ltb, le-ltb, eq-eqb, ne_eqb}
use Rattle.meaning.specs.Task.{Task}
use Rattle.meaning.specs.Meaning.{State as Facts, is_true, after, action_at, applies, preference_at, seen}
use Rattle.meaning.specs.Monitor.{Monitor, step}
use Rattle.state.specs.Member.{member}
use Rattle.monitor.specs.Packed.{monitor_at}
use Rattle.plan.specs.Steps.{MonitorsAre}
use Rattle.losses.specs.Following.{Position, watched, is_met, closing, goes, led_by_source, led_by_end, led_by_closing, led}
use Rattle.std.specs.Prelude.{Option, Some, None}
use Rattle.lost_run.specs.Run.{SeenBy, Stands, TakenAs, SteppedAs, closed_by, Ended}
use Rattle.lost_run.specs.declared.rules.Rule.{Rule}
use Rattle.lost_run.specs.declared.taking.Place.{Place}

-- action j closes the next rule
abbrev closes_next : Task → Position → ℕ → Bool
closes_next t q j =
    ltb q.closed (length t.preferences) && eqb j (closing t q q.closed) && (not (preference_at t q.closed).hard || is_met t q q.closed)

-- Before the end

module _ (t : Task) (l l' : List ℕ) (p : Place) (q : Position) (S : Stands t l p q) (on : q.running ≡ true) (j : ℕ) where
  abbrev A : ℕ
  A = length t.actions

  abbrev running : Bool
  running = applies t q.facts j || eqb j A

  goes_running : goes t q j ≡ running
  goes_running = ap (λ (b : Bool). cond b running (closes_next t q j)) on

  pub beyond : A < j → goes t q j ≡ false
  beyond h =
      goes_running
      ∙ (λ z. le-ltb j A (omega arith) z && is_true q.facts (action_at t j).precondition || ne_eqb j A (λ e. omega arith) z)

  -- each monitor has seen the state
  abbrev pub Seen : Bool → Type 0
  Seen last = (i : ℕ) → i < length t.preferences
      → monitor_at l' i ≡ step (preference_at t i).kind last (monitor_at l i) (seen (preference_at t i) (member p.state))

  watched_are : (last : Bool) → Seen last → MonitorsAre t l' (watched t q last)
  watched_are last s i h =
      s i h ∙ (λ z. step (preference_at t i).kind last (S.kept.monitors i h z) (seen (preference_at t i) (S.facts z)))

  pub ends : j ≡ A → Seen true → TakenAs t l' q j (Some (record { state = p.state; cost = p.cost; running = false; closed = p.closed }))
  ends e s =
      let there : led_by_end t q ≡ led t q j = λ z. cond (sym on z) (cond (sym (le-ltb j A (omega arith)) z) (led_by_source t q j) (led_by_end t q)) (led_by_closing t q) in (
        goes_running ∙ ap (λ (b : Bool). applies t q.facts j || b) (eq-eqb j A e) ∙ or-true (applies t q.facts j),
        subst (Stands t l' _) there
            (record { facts = S.facts; kept = record { monitors = watched_are true s; same = S.kept.same }; running = refl; cost = S.cost }),
      )

  module _ (h : j < A) (s : Seen false) where
    source_goes : goes t q j ≡ applies t (member p.state) j
    source_goes =
        goes_running
        ∙ ap (λ (b : Bool). applies t q.facts j || b) (ne_eqb j A (λ e. omega arith))
        ∙ or-false (applies t q.facts j)
        ∙ ap (λ (f : Facts). applies t f j) (sym S.facts)

    pub steps : (r : Option Place) → SteppedAs t j p r → TakenAs t l' q j r
    steps None e = source_goes ∙ e
    steps (Some y) e =
        let there : led_by_source t q j ≡ led t q j = λ z. cond (sym on z) (cond (sym (lt-ltb j A h) z) (led_by_source t q j) (led_by_end t q)) (led_by_closing t q) in (
          source_goes ∙ e.applying,
          subst (Stands t l' y) there
              (record {
                facts = e.state ∙ ap (λ (f : Facts). after f (action_at t j)) S.facts;
                kept = record { monitors = watched_are false s; same = e.closed ∙ S.kept.same };
                running = e.running ∙ S.running;
                cost = e.cost ∙ ap (λ (n : ℕ). n + (action_at t j).cost) S.cost;
              }),
        )

-- After it

module _ (t : Task) (l : List ℕ) (A : ℕ) (p : Place) (q : Position) (E : Ended t l A p q) (j : ℕ) where
  abbrev k : ℕ
  k = q.closed

  abbrev P : ℕ
  P = length t.preferences

  goes_ended : goes t q j ≡ closes_next t q j
  goes_ended = ap (λ (b : Bool). cond b (applies t q.facts j || eqb j (length t.actions)) (closes_next t q j)) E.over

  pub none_left : P ≤ p.closed → goes t q j ≡ false
  none_left h =
      goes_ended
      ∙ ap (λ (b : Bool). b && eqb j (closing t q k) && (not (preference_at t k).hard || is_met t q k)) (le-ltb k P (omega (arith, E.stands.kept.same)))

  module _ (h : p.closed < P) (x : Rule) (s : SeenBy (preference_at t p.closed) (monitor_at l p.closed) x) where
    same : p.closed ≡ k
    same = E.stands.kept.same

    below : k < P
    below = omega (arith, same)

    here : SeenBy (preference_at t k) (q.monitors (preference_at t k)) x
    here =
        subst (λ (m : Monitor). SeenBy (preference_at t k) m x) (E.stands.kept.monitors k below)
        (subst (λ (n : ℕ). SeenBy (preference_at t n) (monitor_at l n) x) same s)

    test_is : (eqb j (A + cond x.met 1 2 + 2 * p.closed) && (not x.hard || x.met)) ≡ goes t q j
    test_is =
        (λ z. eqb j (E.actions z + cond (here.met z) 1 2 + 2 * same z) && (not (here.hard z) || here.met z))
        ∙ ap (λ (b : Bool). b && eqb j (closing t q k) && (not (preference_at t k).hard || is_met t q k)) (sym (lt-ltb k P below))
        ∙ sym goes_ended

    abbrev to : Place
    to = record { state = p.state; cost = p.cost + cond x.met 0 x.weight; running = p.running; closed = p.closed + 1 }

    stands : Stands t l to (led t q j)
    stands =
        subst (Stands t l to) (λ z. cond (sym E.over z) (cond (ltb j (length t.actions)) (led_by_source t q j) (led_by_end t q)) (led_by_closing t q))
        (record {
          facts = E.stands.facts;
          kept = record { monitors = E.stands.kept.monitors; same = add-one p.closed ∙ ap suc same };
          running = E.stands.running;
          cost = λ z. E.stands.cost z + cond (here.met z) 0 (here.weight z);
        })

    pub closed_as : TakenAs t l q j (closed_by x A j p)
    closed_as = subst (λ (b : Bool). TakenAs t l q j (cond b (Some to) None)) (sym test_is) (go (goes t q j) refl)
      where
        go : (b : Bool) → goes t q j ≡ b → TakenAs t l q j (cond b (Some to) None)
        go true e = (e, stands)
        go false e = e
