use Rattle.text.proofs.Writing.{no_bytes, one_byte_more}
use borrow.Author.Rules.{rules}
use Rattle.text.proofs.put_each.Goals as goal

pub loop-byte-init : goal.loop-byte-init
loop-byte-init c = let a = c.args in (search rules, no_bytes a.out.now a.at)

pub loop-byte-preserved : goal.loop-byte-preserved
loop-byte-preserved c =
    let a = c.args in (
      search rules,
      one_byte_more a.out.now a.at a.word.now c.loop-byte.out c.put_byte-k.new.out c.loop-byte.byte-index c.loop-byte.k c.put_byte-k.result (search rules) c.loop-byte.invariant.1 c.put_byte-k.ensures,
    )
