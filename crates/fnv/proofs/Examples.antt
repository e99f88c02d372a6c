-- Published test vectors of the 32-bit FNV-1a hash, and the hashes of two states.
use mathlib.Core.Path.{◌≡◌, refl}
use mathlib.Core.List.{List, [], ◌∷◌, map}
use Prim.Native.Nat.{ℕ}
use lib.ListN.{take}
use Rattle.fnv.specs.Fnv.{fnv1a, state_bytes}

-- "foobar"
abbrev foobar : List ℕ
foobar = 102 ∷ 111 ∷ 111 ∷ 98 ∷ 97 ∷ 114 ∷ []

-- "", "f", "fo", "foo", "foob", "fooba", "foobar": 811c9dc5, e30c2799, 6222e842, a9f37ed7, 3f5076ef, 39aaa18a and bf9cf968
beginnings : map (λ (n : ℕ). fnv1a (take n foobar)) (0 ∷ 1 ∷ 2 ∷ 3 ∷ 4 ∷ 5 ∷ 6 ∷ [])
    ≡ 2166136261 ∷ 3809224601 ∷ 1646454850 ∷ 2851307223 ∷ 1062237935 ∷ 967483786 ∷ 3214735720 ∷ []
beginnings = refl

-- "a", "b", "c": e40c292c, e70c2de5, e60c2c52
letters : map (λ (n : ℕ). fnv1a (n ∷ [])) (97 ∷ 98 ∷ 99 ∷ []) ≡ 3826002220 ∷ 3876335077 ∷ 3859557458 ∷ []
letters = refl

-- sixteen zeros, and the bytes 8, 7 down to 1, 24, 23 down to 17
no_fact : fnv1a (state_bytes (record { low = 0; high = 0 })) ≡ 1768495365
no_fact = refl

two_words : fnv1a (state_bytes (record { low = 72623859790382856; high = 1230066625199609624 })) ≡ 2938525381
two_words = refl
