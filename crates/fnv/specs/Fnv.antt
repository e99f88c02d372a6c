-- FNV-1a of 32 bits, by Fowler, Noll and Vo, and the bytes of a state: request 11.
use Rattle.std.specs.Prelude.{List, [], ◌∷◌, ◌++◌, ℕ, zero, suc, ◌*◌, ◌/◌, ◌%◌}
use Rattle.std.specs.Int.Bits.{bit_xor}
use Rattle.state.specs.declared.State.{State}

abbrev pub BASIS : ℕ
BASIS = 2166136261

abbrev pub PRIME : ℕ
PRIME = 16777619

-- one byte more: exclusive or, then the lower 32 bits of the product
abbrev pub mixed : ℕ → ℕ → ℕ
mixed h byte = bit_xor h byte * PRIME % 4294967296

abbrev pub hash_from : ℕ → List ℕ → ℕ
hash_from h [] = h
hash_from h (b ∷ bs) = hash_from (mixed h b) bs

abbrev pub fnv1a : List ℕ → ℕ
fnv1a = hash_from BASIS

-- the n lowest bytes of a word, the lowest first
abbrev pub little_endian : ℕ → ℕ → List ℕ
little_endian zero w = []
little_endian (suc n) w = w % 256 ∷ little_endian n (w / 256)

-- word 0 first
abbrev pub state_bytes : State → List ℕ
state_bytes s = little_endian 8 s.low ++ little_endian 8 s.high
