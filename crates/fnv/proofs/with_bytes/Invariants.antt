-- The hash with the bytes that are left is the hash with all.
use mathlib.Core.Path.{◌≡◌}
use lib.ListN.{drop}
use Rattle.fnv.specs.Fnv.{hash_from}
use Rattle.fnv.proofs.with_bytes.Given as goal

abbrev pub invariant-loop-byte : goal.invariant-loop-byte
invariant-loop-byte l = hash_from l.g (drop l.byte-index l.bytes) ≡ hash_from l.h l.bytes
