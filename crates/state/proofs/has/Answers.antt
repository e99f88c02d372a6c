-- A bit of the word that has the fact, by `Words`.
use mathlib.Core.Path.{◌∙◌}
use Rattle.state.proofs.Words.{by_word}
use Rattle.state.proofs.has.Goals as goal

pub returns : goal.returns
returns c =
    let a = c.args in
    c.test_bit.ensures ∙ rw c.word_of.ensures (by_word (record { low = a.low; high = a.high }) a.n)
