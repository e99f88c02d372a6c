-- The two words that the definition reads.
use mathlib.Core.Path.{ap, ◌∙◌}
use Prim.Native.Nat.{ℕ, ◌+◌, ◌*◌}
use Rattle.task.specs.File.{word16}
use Rattle.weekly.proofs.plans.entry_at.Goals as goal

pub returns : goal.returns
returns c =
    let f = c.args.plans.now in
    let second = c.word_at-2.ensures.0 ∙ ap (λ (n : ℕ). word16 f (2 + 2 * n + 2 * c.args.i)) c.requires.0 in
    (λ z. record { start = c.word_at.ensures.0 z; steps = second z }, c.word_at.ensures.1, c.word_at-2.ensures.1)
