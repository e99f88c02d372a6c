-- Monitors in bytes.
use mathlib.Core.Path.{◌≡◌, refl}
use mathlib.Core.Bool.{Bool, true, false}
use mathlib.Core.List.{List, [], ◌∷◌}
use Prim.Native.Nat.{ℕ, zero, suc, ◌+◌, ◌*◌, ◌/◌, ◌%◌, ◌≤◌}
use native.Mathlib.Omega.{arith}
use mir.Val.{bool_byte}
use Rattle.meaning.specs.Monitor.{fresh}
use Rattle.monitor.specs.Packed.{monitor_of, monitor_at}

-- so many that have seen no state
abbrev zeros : ℕ → List ℕ
zeros zero = []
zeros (suc n) = 0 ∷ zeros n

pub fresh_at : (n k : ℕ) → monitor_at (zeros n) k ≡ fresh
fresh_at zero k = refl
fresh_at (suc n) zero = refl
fresh_at (suc n) (suc k) = fresh_at n k

pub digit_small : (b : Bool) → bool_byte b ≤ 1
digit_small true = omega arith
digit_small false = omega arith

pub packed_is : (age : ℕ) (b s : Bool) → monitor_of (4 * age + 2 * bool_byte b + bool_byte s) ≡ record { S = s; B = b; age = age }
packed_is age b s = go b s
  where
    -- the digits, and what is left of them
    digits : (x d e : ℕ) → x ≡ 4 * age + 2 * d + e → d ≤ 1 → e ≤ 1 → (x % 2 ≡ e) × (x / 2 % 2 ≡ d) × (x / 4 ≡ age)
    digits x d e p h k = (omega arith, omega arith, omega arith)

    go : (b s : Bool) → monitor_of (4 * age + 2 * bool_byte b + bool_byte s) ≡ record { S = s; B = b; age = age }
    go true true = let (p, q, r) = digits (4 * age + 2 * 1 + 1) 1 1 refl (omega arith) (omega arith) in rw (p, q, r)
    go true false = let (p, q, r) = digits (4 * age + 2 * 1 + 0) 1 0 refl (omega arith) (omega arith) in rw (p, q, r)
    go false true = let (p, q, r) = digits (4 * age + 2 * 0 + 1) 0 1 refl (omega arith) (omega arith) in rw (p, q, r)
    go false false = let (p, q, r) = digits (4 * age + 2 * 0 + 0) 0 0 refl (omega arith) (omega arith) in rw (p, q, r)
