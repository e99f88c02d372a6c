-- Rows written into an area of our own, of which the marks and the values are then copied: what is copied is the rows.
use mathlib.Core.Path.{◌≡◌, refl, sym, ap, ◌∙◌, subst⁻¹}
use mathlib.Core.Bool.{Bool, true, false}
use mathlib.Core.List.{List}
use Prim.Native.Nat.{ℕ, ◌+◌, ◌*◌, ◌-◌, ◌<◌, ◌≤◌}
use native.Mathlib.Omega.{arith}
use lib.Dec.{leb}
use lib.ListN.{length, get_or, take, drop, length-map, length-take, length-drop, get_or-eq_default}
use lib.Seq.{sets, length-sets, take-take, get_or-take, get_or-drop}
use borrow.Author.Tests.{leb-true, leb-false}
use Rattle.task.specs.TaskRows.{Row}
use Rattle.task.specs.File.{marks, value_bytes}
use Rattle.task.specs.Rows.{Rows}
use Rattle.task.proofs.Bytes.{length_values}
use Rattle.layout.specs.Sides.{stretch}
use Rattle.writer.specs.Writer.{put_rows, Wrote}
use Rattle.writer.specs.declared.Cursor.{Cursor}
use Rattle.writer.proofs.Blocks.{sets-sets, sets_read, as_blocks}
use Rattle.writer.proofs.Copying.{Bytes, copied, stretch_long}

-- bytes of a part
part_bytes : (l : List ℕ) (k j : ℕ) → Bytes l → Bytes (take k (drop j l))
part_bytes l k j bytes i = go (leb k i) refl
  where
    go : (u : Bool) → leb k i ≡ u → get_or (take k (drop j l)) i 0 < 256
    go true e =
        let past : length (take k (drop j l)) ≤ i = simp length-take (omega (arith, leb-true k i e)) in
        subst⁻¹ (λ (v : ℕ). v < 256) (get_or-eq_default (take k (drop j l)) 0 past) (omega arith)
    go false e = rw (get_or-take k (drop j l) i 0 (leb-false k i e), get_or-drop j l i 0) (bytes (j + i))

-- z is the area as it was, own has the rows xs, which are n
module _ (z own : List ℕ) (room : ℕ) (xs : List Row) (n : ℕ) (counted : n ≡ length xs) (fits : length xs ≤ room) (few : room ≤ 12000)
    (long : 8 + 5 * room ≤ length z) (put : own ≡ put_rows z room 0 xs) where
  -- its marks and its values, as they are lent on
  abbrev own_marks : List ℕ
  own_marks = take (8 + room - 8) (drop 8 own)

  abbrev own_values : List ℕ
  own_values = take (length own - (8 + room)) (drop (8 + room) own)

  own_is : own ≡ sets (sets z 8 (marks xs)) (8 + room) (value_bytes xs)
  own_is =
      let e : 8 + room + 4 * 0 ≡ 8 + room = omega arith in
      put ∙ as_blocks z room 0 xs (omega arith) ∙ ap (λ (k : ℕ). sets (sets z 8 (marks xs)) k (value_bytes xs)) e

  size : length own ≡ length z
  size = ap length own_is ∙ length-sets (sets z 8 (marks xs)) (8 + room) (value_bytes xs) ∙ length-sets z 8 (marks xs)

  many_marks : length (marks xs) ≡ n
  many_marks = length-map xs (λ (x : Row). x.mark) ∙ sym counted

  marks_back : take n own_marks ≡ marks xs
  marks_back =
      let ms : List ℕ = marks xs in
      let vs : List ℕ = value_bytes xs in
      let low : 8 + length ms ≤ 8 + room = omega (arith, many_marks) in
      let under : 8 + length ms ≤ length (sets z (8 + room) vs) = omega (arith, many_marks, length-sets z (8 + room) vs) in
      take-take n (8 + room - 8) (drop 8 own) (omega arith)
      ∙ (λ i. take (sym many_marks i) (drop 8 ((own_is ∙ sym (sets-sets ms vs z 8 (8 + room) low)) i)))
      ∙ sets_read ms (sets z (8 + room) vs) 8 under

  values_back : take (4 * n) own_values ≡ value_bytes xs
  values_back =
      let ms : List ℕ = marks xs in
      let vs : List ℕ = value_bytes xs in
      let m : length vs ≡ 4 * n = length_values xs ∙ ap (λ (k : ℕ). 4 * k) (sym counted) in
      let under : 8 + room + length vs ≤ length (sets z 8 ms) = omega (arith, m, length-sets z 8 ms) in
      take-take (4 * n) (length own - (8 + room)) (drop (8 + room) own) (omega (arith, size))
      ∙ (λ i. take (sym m i) (drop (8 + room) (own_is i)))
      ∙ sets_read vs (sets z 8 ms) (8 + room) under

  pub rows_hold : Rows own_marks own_values
  rows_hold =
      record {
        few = simp (length-take, length-drop) (omega (arith, size));
        values = simp (length-take, length-drop) (omega (arith, size));
      }

  pub enough : n ≤ length own_marks
  enough = simp (length-take, length-drop) (omega (arith, size))

  moved : (b : List ℕ) → Bytes own_values → put_rows b n 0 (stretch own_marks own_values 0 n) ≡ put_rows b n 0 xs
  moved b bytes =
      sym (copied own_marks own_values 0 n b n 0 n rows_hold bytes (omega arith) enough (omega arith) (omega arith))
      ∙ (λ i. sets (sets b 8 (marks_back i)) (8 + n + 4 * 0) (values_back i))
      ∙ sym (as_blocks b n 0 xs (omega arith))

  -- what is copied from there is the rows
  pub through : (b out : List ℕ) (c r : Cursor) → c.rows ≡ n → c.next ≡ 0 → Bytes own → Wrote b c (stretch own_marks own_values 0 n) r out → Wrote b c xs r out
  through b out c r p q bytes w =
      record {
        room = w.room;
        same = w.same;
        next = omega (arith, w.next, stretch_long own_marks own_values 0 n (omega arith) enough, counted);
        file = w.file
            ∙ (λ i. put_rows b (p i) (q i) (stretch own_marks own_values 0 n)) ∙ moved b (part_bytes own (length own - (8 + room)) (8 + room) bytes) ∙ (λ i. put_rows b (sym p i) (sym q i) xs);
      }
