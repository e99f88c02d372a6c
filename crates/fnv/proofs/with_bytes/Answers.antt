use borrow.Author.Rules.{rules}
use mathlib.Core.Path.{sym, ap, ◌∙◌}
use Prim.Native.Nat.{ℕ, ◌+◌}
use lib.ListN.{drop}
use Rattle.fnv.specs.Fnv.{hash_from}
use Rattle.fnv.proofs.Hashing.{next_byte, last_byte}
use Rattle.fnv.proofs.with_bytes.Goals as goal

pub loop-byte-preserved : goal.loop-byte-preserved
loop-byte-preserved c =
    let l = c.loop-byte in
    let bs = c.args.bytes.now in
    ap (λ (h : ℕ). hash_from h (drop (l.byte-index + 1) bs)) c.with_byte-g.ensures
    ∙ sym (next_byte l.g bs l.byte-index (search rules)) ∙ l.invariant

pub returns : goal.returns
returns c =
    let l = c.loop-byte in
    sym (last_byte l.g c.args.bytes.now l.byte-index (search rules)) ∙ l.invariant
