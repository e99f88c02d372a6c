-- Runs of stores: apart they may change places, a run is copied byte by byte, and rows put in turn are two runs, of marks and of values.
use mathlib.Core.Path.{◌≡◌, refl, sym, ap, ◌∙◌}
use mathlib.Core.List.{List, [], ◌∷◌, ◌++◌, append_assoc}
use Prim.Native.Nat.{ℕ, suc, ◌+◌, ◌*◌, ◌<◌, ◌≤◌}
use native.Mathlib.Nat.{add-zero}
use native.Mathlib.Numerals.{add-one}
use native.Mathlib.Omega.{arith}
use lib.ListN.{length, get_or, take, drop, set, length-map, length-drop}
use lib.Seq.{sets, sets-eq, length-sets, set-set, set_comm, get_or-set_other, get_or-drop, drop_at, take-suc, take_all, take-append_seam, length-take-le}
use borrow.Rule.Slice.PartMut.{put_mid}
use Rattle.std.proofs.lemmas.Slice.{put_mid-paste}
use borrow.Author.Tests.{lt-ltb}
use Rattle.task.specs.TaskRows.{Row}
use Rattle.task.specs.File.{bytes32, marks, value_bytes}
use Rattle.writer.specs.Writer.{put_row, put_rows}

-- Runs of stores

-- a store below a run
set-sets : (vs l : List ℕ) (j k a : ℕ) → j < k → set (sets l k vs) j a ≡ sets (set l j a) k vs
set-sets [] l j k a h = refl
set-sets (v ∷ vs) l j k a h =
    set-sets vs (set l k v) j (suc k) a (omega arith) ∙ ap (λ (r : List ℕ). sets r (suc k) vs) (set_comm l k j v a (λ e. omega arith))

-- a run below a run
pub sets-sets : (us vs l : List ℕ) (j k : ℕ) → j + length us ≤ k → sets (sets l k vs) j us ≡ sets (sets l j us) k vs
sets-sets [] vs l j k h = refl
sets-sets (u ∷ us) vs l j k h =
    ap (λ (r : List ℕ). sets r (suc j) us) (set-sets vs l j k u (omega arith)) ∙ sets-sets us vs (set l j u) (suc j) k (omega arith)

-- a run once more
pub sets_again : (vs l : List ℕ) (k : ℕ) → sets (sets l k vs) k vs ≡ sets l k vs
sets_again [] l k = refl
sets_again (v ∷ vs) l k =
    ap (λ (r : List ℕ). sets r (suc k) vs)
    (set-sets vs (set l k v) k (suc k) v (omega arith) ∙ ap (λ (r : List ℕ). sets r (suc k) vs) (set-set l k v v))
    ∙ sets_again vs (set l k v) (suc k)

sets-append : (xs ys l : List ℕ) (k : ℕ) → sets l k (xs ++ ys) ≡ sets (sets l k xs) (k + length xs) ys
sets-append [] ys l k = rw add-zero
sets-append (x ∷ xs) ys l k =
    let e : suc k + length xs ≡ k + suc (length xs) = omega arith in
    sets-append xs ys (set l k x) (suc k) ∙ rw e

-- what stands where it was stored
pub sets_read : (vs l : List ℕ) (k : ℕ) → k + length vs ≤ length l → take (length vs) (drop k (sets l k vs)) ≡ vs
sets_read vs l k h =
    let rest : List ℕ = drop (k + length vs) l in
    ap (λ (r : List ℕ). take (length vs) (drop k r)) (sets-eq vs l k h ∙ append_assoc (take k l) vs rest)
    ∙ ap (take (length vs)) (drop_at (take k l) (vs ++ rest) k (length-take-le k l (omega arith)))
    ∙ take-append_seam vs rest

-- and below it, what stood there
pub sets_below : (vs l : List ℕ) (k i : ℕ) → i < k → get_or (sets l k vs) i 0 ≡ get_or l i 0
sets_below [] l k i h = refl
sets_below (v ∷ vs) l k i h = sets_below vs (set l k v) (suc k) i (omega arith) ∙ get_or-set_other l k i v 0 (λ e. omega arith)

-- Bytes copied at once

-- into a part of the area
pub sets_part : (a k : ℕ) (xs ys zs : List ℕ) → ys ≡ zs → length zs ≡ k → a + k ≤ length xs → put_mid a k xs ys ≡ sets xs a zs
sets_part a k xs ys zs e n h =
    let l : a + length zs ≤ length xs = omega arith in
    put_mid-paste a k xs ys zs k e refl (sym n) ∙ (λ i. (take a xs ++ take_all k zs (omega arith) i) ++ drop (a + sym n i) xs) ∙ sym (sets-eq zs xs a l)

-- Bytes copied in turn

-- one byte more of those that stand from `from` on
one_more : (l source : List ℕ) (at from j : ℕ) → from + j < length source
    → set (sets l at (take j (drop from source))) (at + j) (get_or source (from + j) 0) ≡ sets l at (take (j + 1) (drop from source))
one_more l source at from j h =
    let xs : List ℕ = drop from source in
    let v : ℕ = get_or source (from + j) 0 in
    let m : j < length xs = omega (arith, length-drop from source) in
    let e : take (j + 1) xs ≡ take j xs ++ (v ∷ []) =
    ap (λ (n : ℕ). take n xs) (add-one j) ∙ take-suc xs j 0 m ∙ ap (λ (u : ℕ). take j xs ++ (u ∷ [])) (get_or-drop from source j 0) in
    sym (ap (sets l at) e
    ∙ sets-append (take j xs) (v ∷ []) l at
    ∙ ap (λ (n : ℕ). set (sets l at (take j xs)) (at + n) v) (length-take-le j xs (omega arith)))

-- j bytes of so many are copied
pub record Copying (l source : List ℕ) (at from many : ℕ) (out : List ℕ) (j : ℕ) : Type 0 where
  pub few : j ≤ many
  pub so_far : out ≡ sets l at (take j (drop from source))

module _ {l source : List ℕ} {at from many : ℕ} {out : List ℕ} {j : ℕ} (t : Copying l source at from many out j) where
  pub size : length out ≡ length l
  size = ap length t.so_far ∙ length-sets l at (take j (drop from source))

  pub copied_on : j < many → from + j < length source → (v : ℕ) → v ≡ get_or source (from + j) 0 → Copying l source at from many (set out (at + j) v) (j + 1)
  copied_on h m v e =
      record {
        few = omega arith;
        so_far = (λ z. set (t.so_far z) (at + j) (e z)) ∙ one_more l source at from j m;
      }

  pub copied_all : many ≤ j → out ≡ sets l at (take many (drop from source))
  copied_all h =
      let e : j ≡ many = omega (arith, t.few) in
      t.so_far ∙ ap (λ (n : ℕ). sets l at (take n (drop from source))) e

-- Rows put in turn

-- the marks and the values of the rows xs, from row i on
abbrev pub blocks : List ℕ → ℕ → ℕ → List Row → List ℕ
blocks b n i xs = sets (sets b (8 + i) (marks xs)) (8 + n + 4 * i) (value_bytes xs)

one_row : (b : List ℕ) (n i m v : ℕ) → i < n → put_row b n i m v ≡ sets (set b (8 + i) m) (8 + n + 4 * i) (bytes32 v)
unfolding put_row
one_row b n i m v h = rw (lt-ltb i n h)

pub as_blocks : (b : List ℕ) (n i : ℕ) (xs : List Row) → i + length xs ≤ n → put_rows b n i xs ≡ blocks b n i xs
as_blocks b n i [] h = refl
as_blocks b n i (x ∷ xs) h =
    let vs : List ℕ = bytes32 x.value in
    let ws : List ℕ = value_bytes xs in
    let k : ℕ = 8 + n + 4 * i in
    let low : 8 + (i + 1) + length (marks xs) ≤ k = omega (arith, length-map xs (λ (y : Row). y.mark)) in
    let p : 8 + (i + 1) ≡ suc (8 + i) = omega arith in
    let q : 8 + n + 4 * (i + 1) ≡ k + length vs = omega arith in
    as_blocks (put_row b n i x.mark x.value) n (i + 1) xs (omega arith)
    ∙ ap (λ (r : List ℕ). blocks r n (i + 1) xs) (one_row b n i x.mark x.value (omega arith))
    ∙ ap (λ (r : List ℕ). sets r (8 + n + 4 * (i + 1)) ws) (sets-sets (marks xs) vs (set b (8 + i) x.mark) (8 + (i + 1)) k low)
    ∙ (λ z. sets (sets (sets (set b (8 + i) x.mark) (p z) (marks xs)) k vs) (q z) ws)
    ∙ sym (sets-append vs ws (sets b (8 + i) (marks (x ∷ xs))) k)
