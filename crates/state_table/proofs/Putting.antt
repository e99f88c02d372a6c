-- The table after a change that leaves the states alone, and with one node more.
use mathlib.Core.Path.{◌≡◌, sym, ◌∙◌, ap, subst}
use mathlib.Core.List.{List}
use Prim.Native.Nat.{ℕ, suc, ◌*◌, ◌<◌, ◌≤◌}
use native.Mathlib.Decide.{ℕ_discrete}
use native.Mathlib.Omega.{arith}
use lib.ListN.{length, set, length-set}
use lib.Seq.{get_or-set_same, get_or-set_other}
use Rattle.state.specs.declared.State.{State}
use Rattle.state_table.specs.Table.{state_at, SLOTS, slot_of, entry_at, Way, Entered, Tabled}
use Rattle.state_table.proofs.Counting.{taken-set}

-- the same nodes' states in other words
pub same_tabled : (table ws new : List ℕ) (n : ℕ) → Tabled table ws n → length new ≡ length ws
    → ((p : ℕ) → p < n → state_at new p ≡ state_at ws p) → Tabled table new n
same_tabled table ws new n T l same =
    record {
      few = T.few;
      room = omega (arith, T.room);
      slots = T.slots;
      known = T.known;
      entered = λ p h.
          let E = T.entered p h in
          record { slot = E.slot; way = subst (λ (s : State). Way table s E.slot) (sym (same p h)) E.way; entry = E.entry };
      distinct = λ p q h g e. T.distinct p q h g (sym (same p h) ∙ e ∙ same q g);
      sparse = T.sparse;
    }

-- node n put into the empty slot r of its way
module _ (table ws : List ℕ) (n : ℕ) (r : ℕ) (T : Tabled table ws n) (within : r < SLOTS) (free : entry_at table r ≡ 0) where
  abbrev new : List ℕ
  new = set table r (suc n)

  put_here : entry_at new r ≡ suc n
  put_here = get_or-set_same table r (suc n) 0 (omega (arith, T.slots))

  put_else : (q : ℕ) → (q ≡ r → ⊥) → entry_at new q ≡ entry_at table q
  put_else q d = get_or-set_other table r q (suc n) 0 d

  -- a slot that was not empty is as it was
  put_kept : (q e : ℕ) → entry_at table q ≡ suc e → entry_at new q ≡ suc e
  put_kept q e h = go (ℕ_discrete q r)
    where
      go : Dec (q ≡ r) → entry_at new q ≡ suc e
      go (yes d) = let z : suc e ≡ 0 = sym h ∙ ap (entry_at table) d ∙ free in absurd (omega arith)
      go (no d) = put_else q d ∙ h

  -- and none is emptied
  put_filled : (q : ℕ) → (entry_at table q ≡ 0 → ⊥) → entry_at new q ≡ 0 → ⊥
  put_filled q h z = go (ℕ_discrete q r)
    where
      go : Dec (q ≡ r) → ⊥
      go (yes d) = let e : suc n ≡ 0 = sym put_here ∙ ap (entry_at new) (sym d) ∙ z in omega arith
      go (no d) = h (sym (put_else q d) ∙ z)

  put_way : (s : State) (q : ℕ) → Way table s q → Way new s q
  put_way s q W = record { distance = W.distance; ends = W.ends; filled = λ d l. put_filled (slot_of s d) (W.filled d l) }

  put_known : (q : ℕ) → entry_at new q ≤ suc n
  put_known q = go (ℕ_discrete q r)
    where
      go : Dec (q ≡ r) → entry_at new q ≤ suc n
      go (yes d) = omega (arith, put_here, ap (entry_at new) d)
      go (no d) = omega (arith, put_else q d, T.known q)

  module _ (later : List ℕ) (fewer : n < 1024) (room : 4 * suc n ≤ length later)
      (same : (p : ℕ) → p < n → state_at later p ≡ state_at ws p) (way : Way table (state_at later n) r)
      (alone : (p : ℕ) → p < n → state_at ws p ≡ state_at later n → ⊥) where
    put_entered : (p : ℕ) → p < suc n → Entered new later p
    put_entered p h = go (ℕ_discrete p n)
      where
        go : Dec (p ≡ n) → Entered new later p
        go (yes d) =
            subst (Entered new later) (sym d)
            (record { slot = r; way = put_way (state_at later n) r way; entry = put_here })
        go (no d) =
            let l : p < n = omega arith in
            let E = T.entered p l in
            record {
              slot = E.slot;
              way = put_way (state_at later p) E.slot (subst (λ (s : State). Way table s E.slot) (sym (same p l)) E.way);
              entry = put_kept E.slot p E.entry;
            }

    put_distinct : (p q : ℕ) → p < suc n → q < suc n → state_at later p ≡ state_at later q → p ≡ q
    put_distinct p q h g e = go (ℕ_discrete p n) (ℕ_discrete q n)
      where
        -- a node before n has not its state
        other : (j : ℕ) → j < n → state_at later j ≡ state_at later n → ⊥
        other j l s = alone j l (sym (same j l) ∙ s)

        go : Dec (p ≡ n) → Dec (q ≡ n) → p ≡ q
        go (yes a) (yes b) = a ∙ sym b
        go (yes a) (no b) = absurd (other q (omega arith) (sym e ∙ ap (state_at later) a))
        go (no a) (yes b) = absurd (other p (omega arith) (e ∙ ap (state_at later) b))
        go (no a) (no b) =
            let l : p < n = omega arith in
            let m : q < n = omega arith in
            T.distinct p q l m (sym (same p l) ∙ e ∙ same q m)

    pub put_tabled : Tabled new later (suc n)
    put_tabled =
        record {
          few = omega arith;
          room = room;
          slots = length-set table r (suc n) ∙ T.slots;
          known = put_known;
          entered = put_entered;
          distinct = put_distinct;
          sparse = omega (arith, taken-set table r (suc n), T.sparse);
        }
