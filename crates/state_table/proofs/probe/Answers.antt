use borrow.Author.Rules.{rules}
use mathlib.Core.Path.{◌≡◌, sym, ap, ◌∙◌, subst}
use mathlib.Core.Bool.{Bool, true, false}
use mathlib.Core.List.{List}
use Prim.Native.Nat.{ℕ, ◌+◌, ◌%◌}
use native.Mathlib.Nat.{not-suc-le-zero}
use native.Mathlib.Omega.{arith}
use Rattle.state.specs.declared.State.{State}
use Rattle.state_table.specs.Table.{home_of, slot_of, entry_at, stops_at, Probed}
use Rattle.state_table.proofs.Probing.{passed_more, stop_probed, some_stop}
use Rattle.state_table.proofs.probe.Goals as goal

pub loop-d-init : goal.loop-d-init
loop-d-init c = λ e l. absurd (not-suc-le-zero l)

pub bounds-table-slot : goal.bounds-table-slot
bounds-table-slot c =
    let T = c.requires.1 in
    omega (arith, T.slots)

pub stops-requires : goal.stops-requires
stops-requires c =
    let T = c.requires.1 in
    let r : ℕ = (c.home-from.result + c.loop-d.d) % 2048 in
    record { few = omega (arith, T.known r, T.few); room = omega (arith, T.known r, T.room) }

-- the entry that is read stands at distance d from the state's home
module _ (table ws : List ℕ) (s : State) (from d : ℕ) (home : from ≡ home_of s) where
  its_entry : (b : Bool) → b ≡ stops_at ws s (entry_at table ((from + d) % 2048)) → stops_at ws s (entry_at table (slot_of s d)) ≡ b
  its_entry b e = ap (λ (h : ℕ). stops_at ws s (entry_at table ((h + d) % 2048))) (sym home) ∙ sym e

pub returns-then-stops : goal.returns-then-stops
returns-then-stops c = λ n T.
    let a = c.args in
    let s = a.s in
    subst (λ (x : ℕ). Probed a.table.now a.words.now n s ((x + c.loop-d.d) % 2048)) (sym c.home-from.ensures.0)
    (stop_probed a.table.now a.words.now n s T c.loop-d.d c.loop-d.invariant
    (its_entry a.table.now a.words.now s c.home-from.result c.loop-d.d c.home-from.ensures.0 true (sym c.if-stops.true ∙ c.stops.ensures)))

pub loop-d-preserved : goal.loop-d-preserved
loop-d-preserved c =
    let a = c.args in
    let s = a.s in
    passed_more a.table.now a.words.now s c.loop-d.d c.loop-d.invariant
    (its_entry a.table.now a.words.now s c.home-from.result c.loop-d.d c.home-from.ensures.0 false (sym c.if-stops.false ∙ c.stops.ensures))

pub returns : goal.returns
returns c = λ n T.
    let a = c.args in
    let s = a.s in
    absurd (some_stop a.table.now a.words.now n s T (λ e b. c.loop-d.invariant e (search rules)))
