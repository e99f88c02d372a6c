-- The byte has the digits of its monitor, by `Packing`.
use borrow.Author.Rules.{rules}
use Rattle.monitor.proofs.Packing.{digit_small, packed_is}
use Rattle.monitor.proofs.packed.Goals as goal

pub overflow_mul-result-2 : goal.overflow_mul-result-2
overflow_mul-result-2 c = let b = digit_small c.args.m.b in search rules

pub overflow_add-result : goal.overflow_add-result
overflow_add-result c = let b = digit_small c.args.m.b in search rules

pub overflow_add-result-2 : goal.overflow_add-result-2
overflow_add-result-2 c = let m = c.args.m in let b = digit_small m.b in let s = digit_small m.s in search rules

pub returns : goal.returns
returns c = let m = c.args.m in packed_is m.age m.b m.s
