-- The way of a state through the table.
use mathlib.Core.Path.{◌≡◌, refl, sym, ◌∙◌, ap, subst}
use mathlib.Core.Bool.{true, false}
use mathlib.Core.List.{List}
use Prim.Native.Nat.{ℕ, zero, suc, ◌+◌, ◌-◌, ◌%◌, ◌<◌}
use native.Mathlib.Decide.{ℕ_discrete, dec_lt}
use native.Mathlib.Omega.{arith}
use lib.Dec.{eqb}
use lib.ListN.{length}
use borrow.Author.Tests.{eqb-true, eq-eqb}
use Rattle.lists.proofs.Tests.{both_true, not_both}
use Rattle.state.specs.declared.State.{State}
use Rattle.state_table.specs.Table.{state_at, home_of, slot_of, entry_at, Way, taken, Tabled, stops_at, Finds, Probed}
use Rattle.state_table.proofs.Counting.{all-taken}

-- the slots up to distance d do not stop the way
abbrev pub Passed : List ℕ → List ℕ → State → ℕ → Type 0
Passed table ws s d = (e : ℕ) → e < d → stops_at ws s (entry_at table (slot_of s e)) ≡ false

pub passed_more : (table ws : List ℕ) (s : State) (d : ℕ) → Passed table ws s d → stops_at ws s (entry_at table (slot_of s d)) ≡ false
    → Passed table ws s (d + 1)
passed_more table ws s d P h e l = go (ℕ_discrete e d)
  where
    go : Dec (e ≡ d) → stops_at ws s (entry_at table (slot_of s e)) ≡ false
    go (yes q) = rw q h
    go (no q) = P e (omega arith)

-- A node that is found has the state

has_state : (ws : List ℕ) (s : State) (p : ℕ) → stops_at ws s (suc p) ≡ true → state_at ws p ≡ s
has_state ws s p h =
    let b = both_true (eqb (state_at ws p).low s.low) (eqb (state_at ws p).high s.high) h in
    let l : (state_at ws p).low ≡ s.low = eqb-true (state_at ws p).low s.low b.0 in
    let r : (state_at ws p).high ≡ s.high = eqb-true (state_at ws p).high s.high b.1 in
    λ i. record { low = l i; high = r i }

state_stops : (ws : List ℕ) (s : State) (p : ℕ) → state_at ws p ≡ s → stops_at ws s (suc p) ≡ true
state_stops ws s p e =
    rw (eq-eqb (state_at ws p).low s.low (ap (λ (x : State). x.low) e), eq-eqb (state_at ws p).high s.high (ap (λ (x : State). x.high) e))

home_below : (s : State) → home_of s < 2048
unfolding home_of
home_below s = omega arith

module _ (table ws : List ℕ) (n : ℕ) (s : State) (T : Tabled table ws n) where
  -- no node has a state whose way comes to an empty slot
  none_has : (d : ℕ) → Passed table ws s d → entry_at table (slot_of s d) ≡ 0 → (p : ℕ) → p < n → state_at ws p ≡ s → ⊥
  none_has d P empty p h q =
      let E = T.entered p h in
      go (subst (λ (x : State). Way table x E.slot) q E.way) E.entry
    where
      go : {r : ℕ} → Way table s r → entry_at table r ≡ suc p → ⊥
      go {r} W entry = by_distance (dec_lt W.distance d) (dec_lt d W.distance)
        where
          there : entry_at table (slot_of s W.distance) ≡ suc p
          there = ap (entry_at table) (sym W.ends) ∙ entry

          by_distance : Dec (W.distance < d) → Dec (d < W.distance) → ⊥
          by_distance (yes l) m =
              not_both (ap (stops_at ws s) there ∙ state_stops ws s p q) (P W.distance l)
          by_distance (no l) (yes m) = W.filled d m empty
          by_distance (no l) (no m) =
              let same : W.distance ≡ d = omega arith in
              let z : suc p ≡ 0 = sym there ∙ ap (λ (k : ℕ). entry_at table (slot_of s k)) same ∙ empty in
              omega arith

  pub stop_probed : (d : ℕ) → Passed table ws s d → stops_at ws s (entry_at table (slot_of s d)) ≡ true → Probed table ws n s (slot_of s d)
  stop_probed d P h =
      record {
        within = omega arith;
        way = record {
          distance = d;
          ends = refl;
          filled = λ e l z. not_both (ap (stops_at ws s) z) (P e l);
        };
        finds = go (entry_at table (slot_of s d)) refl h;
      }
    where
      go : (k : ℕ) → entry_at table (slot_of s d) ≡ k → stops_at ws s k ≡ true → Finds ws n s k
      go zero e t = none_has d P e
      go (suc p) e t = (omega (arith, T.known (slot_of s d)), has_state ws s p t)

  -- some slot is empty, and stops every way
  pub some_stop : Passed table ws s 2048 → ⊥
  some_stop P =
      let all : taken table ≡ length table = all-taken table (λ r h z. not_both (ap (stops_at ws s) (ap (entry_at table) (reached r (omega (arith, T.slots))) ∙ z)) (P (way_to r) (omega arith))) in
      omega (arith, T.sparse, T.few, T.slots)
    where
      -- the distance of slot r
      way_to : ℕ → ℕ
      way_to r = (r + 2048 - home_of s) % 2048

      reached : (r : ℕ) → r < 2048 → slot_of s (way_to r) ≡ r
      reached r h = omega (arith, home_below s)

-- What the code tests

pub stops_empty : (ws : List ℕ) (s : State) (e : ℕ) → e ≡ 0 → true ≡ stops_at ws s e
stops_empty ws s e z = rw z refl
