-- A word is the set of its bits, by `Words` of state.
use borrow.Author.Rules.{rules}
use mathlib.Core.Path.{ap, ◌∙◌}
use mathlib.Core.Bool.{Bool}
use Prim.Native.Nat.{ℕ}
use Rattle.state.proofs.Words.{low_alone}
use Rattle.settling.proofs.is_met.Goals as goal

pub returns : goal.returns
returns c = let a = c.args in c.holds.ensures ∙ ap (λ (f : ℕ → Bool). f a.k) (low_alone a.met (search rules))
