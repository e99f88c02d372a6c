-- The bytes by `low_bytes`.
use mathlib.Core.Path.{ap, ◌∙◌}
use Rattle.fnv.specs.Fnv.{hash_from}
use Rattle.fnv.proofs.Hashing.{low_bytes}
use Rattle.fnv.proofs.with_word.Goals as goal

pub returns : goal.returns
returns c = c.with_bytes.ensures ∙ ap (hash_from c.args.h) (c.to_le_bytes.ensures ∙ low_bytes 8 c.args.word)
