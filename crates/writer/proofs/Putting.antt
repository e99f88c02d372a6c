-- Laws of rows that are put: rows put in turn, and the file that all rows of it make.
use mathlib.Core.Path.{◌≡◌, refl, sym, ap, ap₂, ◌∙◌, subst}
use mathlib.Core.Bool.{Bool, true, false}
use mathlib.Core.List.{List, [], ◌∷◌, ◌++◌}
use Prim.Native.Nat.{ℕ, suc, ◌+◌, ◌*◌, ◌-◌, ◌<◌, ◌≤◌}
use native.Mathlib.Nat.{add-zero}
use native.Mathlib.Omega.{arith}
use lib.Dec.{leb}
use lib.ListN.{length, get_or, take, drop, length-append, length-map, length-drop}
use lib.Seq.{sets, sets-eq, take_at, drop-append-add, length-take-le, drop-drop}
use borrow.Author.Tests.{leb-true, leb-false, le-ltb}
use Rattle.task.specs.TaskRows.{Row, row}
use Rattle.task.specs.File.{bytes16, marks, value_bytes, file_of_rows}
use Rattle.task.specs.Rows.{value_at}
use Rattle.task.proofs.Bytes.{length_values}
use Rattle.task.proofs.Reading.{row_at}
use Rattle.layout.specs.Sides.{stretch}
use Rattle.writer.specs.Writer.{row_after, put_row, put_rows, Room, Wrote}
use Rattle.writer.specs.declared.Cursor.{Cursor}
use Rattle.writer.proofs.Blocks.{as_blocks}

-- Rows put in turn

pub put_append : (b : List ℕ) (n i : ℕ) (xs ys : List Row) → put_rows b n i (xs ++ ys) ≡ put_rows (put_rows b n i xs) n (i + length xs) ys
put_append b n i [] ys = rw add-zero
put_append b n i (x ∷ xs) ys =
    let e : i + 1 + length xs ≡ i + suc (length xs) = omega arith in
    put_append (put_row b n i x.mark x.value) n (i + 1) xs ys ∙ rw e

-- from row n on nothing is put
none_put : (b : List ℕ) (n i m v : ℕ) → n ≤ i → put_row b n i m v ≡ b
unfolding put_row
none_put b n i m v h = rw (le-ltb i n h)

pub none_put_on : (b : List ℕ) (n i : ℕ) (xs : List Row) → n ≤ i → put_rows b n i xs ≡ b
none_put_on b n i [] h = refl
none_put_on b n i (x ∷ xs) h =
    none_put_on (put_row b n i x.mark x.value) n (i + 1) xs (omega arith) ∙ none_put b n i x.mark x.value h

-- rows that are no longer counted are not put either
same_put : (b : List ℕ) (n i j m : ℕ) (xs : List Row) → n ≤ 12000 → j ≡ row_after i m → put_rows b n j xs ≡ put_rows b n (i + m) xs
same_put b n i j m xs h e = go (leb (i + m) 12001) refl
  where
    go : (u : Bool) → leb (i + m) 12001 ≡ u → put_rows b n j xs ≡ put_rows b n (i + m) xs
    go true p =
        let l : i + m ≤ 12001 = leb-true (i + m) 12001 p in
        let q : j ≡ i + m = omega arith in
        ap (λ (k : ℕ). put_rows b n k xs) q
    go false p =
        let l : 12001 < i + m = leb-false (i + m) 12001 p in
        none_put_on b n j xs (omega arith) ∙ sym (none_put_on b n (i + m) xs (omega arith))

-- rows written after rows
pub then : {b out out' : List ℕ} {c j k : Cursor} {xs ys : List Row} → Wrote b c xs j out → Wrote out j ys k out' → Wrote b c (xs ++ ys) k out'
then {b} {out} {out'} {c} {j} {k} {xs} {ys} v w =
    let h : c.rows ≤ 12000 = omega (arith, v.same, v.room.few) in
    record {
      room = w.room;
      same = w.same ∙ v.same;
      next = omega (arith, v.next, w.next, length-append xs ys);
      file = w.file
          ∙ ap₂ (λ (l : List ℕ) (n : ℕ). put_rows l n j.next ys) v.file v.same
          ∙ same_put (put_rows b c.rows c.next xs) c.rows c.next j.next (length xs) ys h v.next
          ∙ sym (put_append b c.rows c.next xs ys);
    }

pub wrote_none : {b : List ℕ} {c : Cursor} → Room c b → Wrote b c [] c b
wrote_none {b} {c} r = record { room = r; same = refl; next = omega arith; file = refl }

pub wrote_full : {b : List ℕ} {c : Cursor} (xs : List Row) → Room c b → 12001 ≤ c.next → Wrote b c xs c b
wrote_full {b} {c} xs r l =
    record { room = r; same = refl; next = omega arith; file = sym (none_put_on b c.rows c.next xs (omega (arith, r.few))) }

-- rows that the file has no room for
pub wrote_past : (b : List ℕ) (c : Cursor) (xs : List Row) (r : Cursor) → Room c b → c.rows ≤ c.next → (r.rows ≡ c.rows) × (r.next ≡ row_after c.next (length xs))
    → Wrote b c xs r b
wrote_past b c xs r room h p =
    record {
      room = record { few = omega (arith, room.few, p.0); long = omega (arith, room.long, p.0) };
      same = p.0;
      next = p.1;
      file = sym (none_put_on b c.rows c.next xs h);
    }

-- the same rows in another form
pub as_rows : {b out : List ℕ} {c r : Cursor} {xs ys : List Row} → xs ≡ ys → Wrote b c xs r out → Wrote b c ys r out
as_rows {b} {out} {c} {r} e w = subst (λ (zs : List Row). Wrote b c zs r out) e w

-- Loops that write

-- what is written from here on, ys into out where k stands, makes up the rows xs
abbrev pub Onward : List ℕ → Cursor → List Row → List ℕ → Cursor → List Row → Type 0
Onward b c xs out k ys = (r : Cursor) (o : List ℕ) → Wrote out k ys r o → Wrote b c xs r o

-- the area is as long as it was, and has room for as many rows
pub record Kept (b : List ℕ) (out : List ℕ) (k : Cursor) : Type 0 where
  pub size : length out ≡ length b
  pub room : Room k out

pub kept_none : {b : List ℕ} {c : Cursor} → Room c b → Kept b b c
kept_none r = record { size = refl; room = r }

pub kept_on : {b out out' : List ℕ} {k r : Cursor} {xs : List Row} → Kept b out k → length out' ≡ length out → Wrote out k xs r out' → Kept b out' r
kept_on s e w = record { size = e ∙ s.size; room = w.room }

-- A part of the rows that a loop goes through

module _ (ms vs : List ℕ) (j to : ℕ) where
  pub next_row : j < to → j < length ms → stretch ms vs j to ≡ row (get_or ms j 0) (value_at vs j) ∷ stretch ms vs (j + 1) to
  next_row h l = let e : to - j ≡ suc (to - (j + 1)) = omega arith in rw (row_at ms vs j l, e)

  pub no_row : to ≤ j → stretch ms vs j to ≡ []
  no_row h = let e : to - j ≡ 0 = omega arith in rw e

-- The whole file

-- a run of stores after a front
sets_after : (front back vs : List ℕ) (k : ℕ) → length front ≡ k → length vs ≤ length back → sets (front ++ back) k vs ≡ front ++ vs ++ drop (length vs) back
sets_after front back vs k e h =
    let l : k + length vs ≤ length (front ++ back) = omega (arith, length-append front back) in
    sets-eq vs (front ++ back) k l ∙ rw (take_at front back k e, ← e, drop-append-add front back (length vs))

split : (b ms ws : List ℕ) (n : ℕ) → length ms ≡ n → length ws ≡ 4 * n → 8 + 5 * n ≤ length b
    → sets (sets b 8 ms) (8 + n) ws ≡ take 8 b ++ ms ++ ws ++ drop (8 + 5 * n) b
split b ms ws n p q l =
    let f : 8 + length ms ≤ length b = omega arith in
    let k : length (take 8 b ++ ms) ≡ 8 + n = omega (arith, length-append (take 8 b) ms, length-take-le 8 b (omega arith)) in
    let d : length ws ≤ length (drop (8 + length ms) b) = omega (arith, length-drop (8 + length ms) b) in
    let e : 8 + length ms + length ws ≡ 8 + 5 * n = omega arith in
    ap (λ (r : List ℕ). sets r (8 + n) ws) (sets-eq ms b 8 f)
    ∙ sets_after (take 8 b ++ ms) (drop (8 + length ms) b) ws (8 + n) k d
    ∙ rw (drop-drop (length ws) (8 + length ms) b, e)

-- every row of a file, put in turn: the header and what stands after the file are as they were
pub whole : (b : List ℕ) (xs : List Row) → 8 + 5 * length xs ≤ length b
    → put_rows b (length xs) 0 xs ≡ take 8 b ++ marks xs ++ value_bytes xs ++ drop (8 + 5 * length xs) b
whole b xs h =
    let e : 8 + length xs + 4 * 0 ≡ 8 + length xs = omega arith in
    as_blocks b (length xs) 0 xs (omega arith)
    ∙ ap (λ (k : ℕ). sets (sets b 8 (marks xs)) k (value_bytes xs)) e
    ∙ split b (marks xs) (value_bytes xs) (length xs) (length-map xs (λ (x : Row). x.mark)) (length_values xs) h

-- with the sizes already written, that is the file of the rows, and then what stood after it
pub whole_file : (b : List ℕ) (F A P : ℕ) (xs : List Row) → 8 + 5 * length xs ≤ length b
    → take 8 b ≡ bytes16 F ++ bytes16 A ++ bytes16 P ++ bytes16 (length xs)
    → put_rows b (length xs) 0 xs ≡ file_of_rows F A P xs ++ drop (8 + 5 * length xs) b
whole_file b F A P xs h e =
    whole b xs h ∙ ap (λ (r : List ℕ). r ++ marks xs ++ value_bytes xs ++ drop (8 + 5 * length xs) b) e
