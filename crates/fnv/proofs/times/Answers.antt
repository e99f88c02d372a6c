-- The whole product fits 64 bits, by `below` at 32.
use borrow.Author.Rules.{rules}
use Rattle.fnv.proofs.Product.{below}
use Rattle.fnv.proofs.times.Goals as goal

pub overflow_mul-result : goal.overflow_mul-result
overflow_mul-result c = record { fits = below 32 (search rules) (search rules) }
