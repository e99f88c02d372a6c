-- The fact's bit joined to its word (`Masks`).
use borrow.Author.Rules.{rules}
use mathlib.Core.Path.{◌∙◌, subst⁻¹}
use Prim.Native.Nat.{ℕ, ◌%◌, ◌<◌}
use native.Mathlib.Omega.{arith}
use lib.Bits.{bit_or}
use lib.ListN.{get_or, set}
use Rattle.state.proofs.Bits.{shifted_one}
use Rattle.spelling.specs.Runs.{sets_in}
use Rattle.spelling.proofs.Masks.{slot_within, takes_in, left_out}
use Rattle.spelling.proofs.runs.take_in.Goals as goal
use Rattle.spelling.proofs.runs.take_in.Goals.{After-slot-k}

within : (c : After-slot-k) → c.slot-k.result < 4
within c =
    let a = c.args in
    subst⁻¹ (λ (k : ℕ). k < 4) c.slot-k.ensures (slot_within a.fact a.in_first (search rules))

pub offset_bounds-words-k : goal.offset_bounds-words-k
offset_bounds-words-k c = let h = within c in search rules

pub bounds-words-k : goal.bounds-words-k
bounds-words-k c = omega (arith, within (goal.at.bounds-words-k c).After-slot-k, c.requires)

pub offset_bounds-words-k-then-fact-lt128 : goal.offset_bounds-words-k-then-fact-lt128
offset_bounds-words-k-then-fact-lt128 c = let h = within (goal.at.offset_bounds-words-k-then-fact-lt128 c).After-slot-k in search rules

pub bounds-words-k-then-fact-lt128 : goal.bounds-words-k-then-fact-lt128
bounds-words-k-then-fact-lt128 c = omega (arith, within (goal.at.bounds-words-k-then-fact-lt128 c).After-slot-k, c.requires)

pub returns-then-fact-lt128 : goal.returns-then-fact-lt128
returns-then-fact-lt128 c =
    let a = c.args in
    let ws = a.words.now in
    let n = a.fact in
    (λ i. sets_in (set ws (c.slot-k.ensures i) (bit_or (get_or ws (c.slot-k.ensures i) 0) (shifted_one (n % 64) (omega arith) i))))
    ∙ takes_in ws c.requires n a.in_first (search rules)

pub returns-else-fact-lt128 : goal.returns-else-fact-lt128
returns-else-fact-lt128 c =
    let a = c.args in
    left_out a.words.now c.requires a.fact a.in_first (search rules)
