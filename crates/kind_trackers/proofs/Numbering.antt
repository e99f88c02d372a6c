-- A loop that writes rows for one number after the other, from 1 to t: f j for number j.
use mathlib.Core.Path.{◌≡◌, refl, sym, ap, ◌∙◌}
use mathlib.Core.List.{List, ◌∷◌, map}
use Prim.Native.Nat.{ℕ, zero, suc, ◌+◌, ◌-◌, ◌≤◌, ◌<◌}
use native.Mathlib.Omega.{arith}
use lib.ListN.{length}
use Rattle.lists.specs.Lists.{singleton, range, concat_map}
use Rattle.task.specs.Marks.{DELETE}
use Rattle.task.specs.TaskRows.{Row, row}
use Rattle.writer.specs.Writer.{Room, Wrote}
use Rattle.writer.specs.declared.Cursor.{Cursor}
use Rattle.writer.proofs.Putting.{Onward, Kept, kept_none, kept_on, then, wrote_none, as_rows}

-- what holds before number j
pub record Numbered (f : ℕ → List Row) (t : ℕ) (b : List ℕ) (c : Cursor) (out : List ℕ) (k : Cursor) (j : ℕ) : Type 0 where
  pub so_far : Kept b out k
  pub low : 1 ≤ j
  pub high : j ≤ t + 1
  pub onward : Onward b c (concat_map f (range 1 t)) out k (concat_map f (range j (t + 1 - j)))

module _ (f : ℕ → List Row) (t : ℕ) {b : List ℕ} {c : Cursor} where
  pub begins : Room c b → Numbered f t b c b c 1
  begins room =
      let e : t + 1 - 1 ≡ t = omega arith in
      record { so_far = kept_none room; low = omega arith; high = omega arith; onward = λ r o w. as_rows (ap (λ (m : ℕ). concat_map f (range 1 m)) e) w }

  module _ {out : List ℕ} {k : Cursor} {j : ℕ} (so_far : Numbered f t b c out k j) where
    pub goes_on : j ≤ t → {out' : List ℕ} {k' : Cursor} → length out' ≡ length out → Wrote out k (f j) k' out' → Numbered f t b c out' k' (j + 1)
    goes_on h same w =
        let e : t + 1 - j ≡ suc (t + 1 - (j + 1)) = omega arith in
        record {
          so_far = kept_on so_far.so_far same w;
          low = omega arith;
          high = omega arith;
          onward = λ r o v. so_far.onward r o (as_rows (ap (λ (m : ℕ). concat_map f (range j m)) (sym e)) (then w v));
        }

    pub ends : t < j → Wrote b c (concat_map f (range 1 t)) k out
    ends h =
        let e : t + 1 - j ≡ 0 = omega (arith, so_far.high) in
        so_far.onward k out (as_rows (ap (λ (m : ℕ). concat_map f (range j m)) (sym e)) (wrote_none so_far.so_far.room))

-- the rows that delete D1, D2 and so on
abbrev pub deletes : ℕ → ℕ → List Row
deletes d j = singleton (row DELETE (d + j))

pub deletes_are : (d k m : ℕ) → concat_map (deletes d) (range k m) ≡ map (row DELETE) (range (d + k) m)
deletes_are d k zero = refl
deletes_are d k (suc m) =
    let e : d + (k + 1) ≡ d + k + 1 = omega arith in
    ap (λ (us : List Row). row DELETE (d + k) ∷ us) (deletes_are d (k + 1) m ∙ ap (λ (x : ℕ). map (row DELETE) (range x m)) e)
