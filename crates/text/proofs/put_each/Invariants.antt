-- One byte more in each turn, or one that is dropped: one_byte_more of Writing.
use Prim.Native.Nat.{◌+◌}
use mathlib.Core.Path.{◌≡◌}
use lib.ListN.{take}
use Rattle.text.specs.Area.{Wrote}
use Rattle.text.proofs.put_each.Given as goal

abbrev pub invariant-loop-byte : goal.invariant-loop-byte
invariant-loop-byte l = (l.k ≡ l.at + l.byte-index) × Wrote l.initial.out l.at (take l.byte-index l.word) l.k l.out
