-- A hash, byte by byte and part by part.
use mathlib.Core.Path.{◌≡◌, refl, sym, ◌∙◌, ap}
use mathlib.Core.List.{List, [], ◌∷◌, ◌++◌}
use Prim.Native.Nat.{ℕ, zero, suc, ◌+◌, ◌/◌, ◌%◌, ◌^◌, ◌<◌, ◌≤◌}
use lib.ListN.{length, get_or, drop}
use native.Mathlib.Nat.{pow-succ', div-div-eq-div-mul}
use Rattle.std.specs.Int.{byte_at, bytes_low_first}
use Rattle.std.proofs.lemmas.List.{drop_more, drop_all}
use Rattle.fnv.specs.Fnv.{mixed, hash_from, little_endian}

pub hash_append : (h : ℕ) (xs ys : List ℕ) → hash_from h (xs ++ ys) ≡ hash_from (hash_from h xs) ys
hash_append h [] ys = refl
hash_append h (x ∷ xs) ys = hash_append (mixed h x) xs ys

-- the bytes from place i on
pub next_byte : (h : ℕ) (bs : List ℕ) (i : ℕ) → i < length bs
    → hash_from h (drop i bs) ≡ hash_from (mixed h (get_or bs i 0)) (drop (i + 1) bs)
next_byte h bs i l = ap (hash_from h) (drop_more bs i 0 l)

pub last_byte : (h : ℕ) (bs : List ℕ) (i : ℕ) → length bs ≤ i → hash_from h (drop i bs) ≡ h
last_byte h bs i l = ap (hash_from h) (drop_all i bs l)

-- the bytes of a word from byte 1 on are those of the word without its lowest
later_byte : (i w : ℕ) → byte_at (suc i) w ≡ byte_at i (w / 256)
later_byte zero w = refl
later_byte (suc i) w =
    ap (λ (k : ℕ). w / k % 256) (pow-succ' 256 (suc i)) ∙ ap (λ (k : ℕ). k % 256) (sym (div-div-eq-div-mul w 256 (256 ^ suc i)))

later_bytes : (n i w : ℕ) → bytes_low_first (suc i) n w ≡ bytes_low_first i n (w / 256)
later_bytes zero i w = refl
later_bytes (suc n) i w = rw (later_byte i w, later_bytes n (suc i) w) refl

pub low_bytes : (n w : ℕ) → bytes_low_first 0 n w ≡ little_endian n w
low_bytes zero w = refl
low_bytes (suc n) w = ap (λ (bs : List ℕ). w % 256 ∷ bs) (later_bytes n 0 w ∙ low_bytes n (w / 256))
