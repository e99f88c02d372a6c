-- Word after word, by `hash_append`.
use mathlib.Core.Path.{sym, ◌∙◌, ap}
use Prim.Native.Nat.{ℕ}
use Rattle.fnv.specs.Fnv.{BASIS, hash_from, little_endian}
use Rattle.fnv.proofs.Hashing.{hash_append}
use Rattle.fnv.proofs.of_state.Goals as goal

pub returns : goal.returns
returns c =
    let a = c.args in
    c.with_word-2.ensures
    ∙ ap (λ (h : ℕ). hash_from h (little_endian 8 a.s.high)) c.with_word.ensures
    ∙ sym (hash_append BASIS (little_endian 8 a.s.low) (little_endian 8 a.s.high))
