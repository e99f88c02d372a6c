-- One more where the preference is met: the two branches compute.
use borrow.Author.Rules.{rules}
use mathlib.Core.Path.{sym, ap, ◌∙◌}
use mathlib.Core.Bool.{Bool, cond}
use Prim.Native.Nat.{◌+◌}
use Rattle.weekly.proofs.tally.raised_count.Goals as goal

pub returns-then-is_met : goal.returns-then-is_met
returns-then-is_met c =
    let n = c.args.c in
    (ap (λ (b : Bool). cond b (n + 1) n) (sym c.if-is_met.true ∙ c.is_met.ensures), search rules)

pub returns : goal.returns
returns c =
    let n = c.args.c in
    (ap (λ (b : Bool). cond b (n + 1) n) (sym c.if-is_met.false ∙ c.is_met.ensures), search rules)
