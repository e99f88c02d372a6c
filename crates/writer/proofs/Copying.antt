-- Rows copied as two blocks: from the source, or from where they stand in the file itself.
use mathlib.Core.Path.{◌≡◌, refl, sym, ap, ◌∙◌, subst⁻¹}
use mathlib.Core.Bool.{Bool, true, false}
use mathlib.Core.List.{List, [], ◌∷◌, ◌++◌}
use Prim.Native.Nat.{ℕ, zero, suc, ◌+◌, ◌*◌, ◌-◌, ◌<◌, ◌≤◌, min}
use native.Mathlib.Numerals.{add-one}
use native.Mathlib.Omega.{arith}
use lib.Dec.{leb}
use lib.ListN.{length, get_or, take, drop, set, length-map, length-drop, take-append-drop, drop_of_length-le}
use lib.Seq.{sets, length-sets, drop-cons, drop-set-lt, take-nil, take-take, take-append-add, length-take-le}
use borrow.Author.Tests.{leb-true, leb-false}
use Rattle.task.specs.TaskRows.{Row}
use Rattle.task.specs.File.{bytes32, word32, marks, value_bytes, paired}
use Rattle.task.specs.Rows.{Rows, value_at}
use Rattle.task.proofs.Bytes.{bytes32_back, length_values, length-paired}
use Rattle.task.proofs.Reading.{row_at}
use Rattle.layout.specs.Sides.{stretch}
use Rattle.layout.specs.declared.sides.Span.{Span}
use Rattle.writer.specs.Writer.{put_rows, Wrote, Standing}
use Rattle.writer.specs.declared.Cursor.{Cursor}
use Rattle.writer.proofs.Blocks.{sets-sets, sets_again, sets_read, blocks, as_blocks}
use Rattle.writer.proofs.Putting.{put_append, none_put_on}

-- The rows that fit

module _ (b : List ℕ) (n i : ℕ) (xs : List Row) (k : ℕ) (h : i ≤ n) (fit : k ≡ min (length xs) (n - i)) where
  long : length (take k xs) ≡ k
  long = length-take-le k xs (omega arith)

  none_after : (o : List ℕ) → put_rows o n (i + length (take k xs)) (drop k xs) ≡ o
  none_after o = go (leb (length xs) (n - i)) refl
    where
      go : (u : Bool) → leb (length xs) (n - i) ≡ u → put_rows o n (i + length (take k xs)) (drop k xs) ≡ o
      go true p =
          let l : length xs ≤ n - i = leb-true (length xs) (n - i) p in
          rw (drop_of_length-le xs {i = k} (omega arith)) refl
      go false p =
          let l : n - i < length xs = leb-false (length xs) (n - i) p in
          none_put_on o n (i + length (take k xs)) (drop k xs) (omega (arith, long))

  -- as many as the file has room for are put, and no more
  pub fitted : put_rows b n i xs ≡ blocks b n i (take k xs)
  fitted =
      ap (put_rows b n i) (sym (take-append-drop k xs))
      ∙ put_append b n i (take k xs) (drop k xs)
      ∙ none_after (put_rows b n i (take k xs))
      ∙ as_blocks b n i (take k xs) (omega (arith, long))

-- Blocks of the source

-- the elements of a slice of bytes are bytes
abbrev pub Bytes : List ℕ → Type 0
Bytes vs = (i : ℕ) → get_or vs i 0 < 256

-- a value's bytes, and m after them
value_bytes_lem : (vs : List ℕ) (j m : ℕ) → j + 4 ≤ length vs → Bytes vs
    → bytes32 (word32 (drop j vs)) ++ take m (drop (j + 4) vs) ≡ take (4 + m) (drop j vs)
value_bytes_lem vs j m h bytes =
    let a : ℕ = get_or vs j 0 in
    let b : ℕ = get_or vs (suc j) 0 in
    let c : ℕ = get_or vs (suc (suc j)) 0 in
    let d : ℕ = get_or vs (suc (suc (suc j))) 0 in
    let r : List ℕ = drop (j + 4) vs in
    let p : suc (suc (suc (suc j))) ≡ j + 4 = omega arith in
    let e : drop j vs ≡ a ∷ b ∷ c ∷ d ∷ r =
    drop-cons vs j 0 (omega arith)
    ∙ ap (λ (l : List ℕ). a ∷ l) (drop-cons vs (suc j) 0 (omega arith)
    ∙ ap (λ (l : List ℕ). b ∷ l) (drop-cons vs (suc (suc j)) 0 (omega arith)
    ∙ ap (λ (l : List ℕ). c ∷ l) (drop-cons vs (suc (suc (suc j))) 0 (omega arith) ∙ ap (λ (n : ℕ). d ∷ drop n vs) p))) in
    let q : 4 + m ≡ suc (suc (suc (suc m))) = omega arith in
    ap (λ (l : List ℕ). bytes32 (word32 l) ++ take m r) e
    ∙ ap (λ (l : List ℕ). l ++ take m r) (bytes32_back a b c d (bytes j) (bytes (suc j)) (bytes (suc (suc j))) (bytes (suc (suc (suc j)))))
    ∙ sym (ap (λ (l : List ℕ). take (4 + m) l) e ∙ ap (λ (n : ℕ). take n (a ∷ b ∷ c ∷ d ∷ r)) q)

module _ (ms vs : List ℕ) where
  marks_of_lem : (k from : ℕ) → from + k ≤ length ms → marks (take k (drop from (paired ms vs))) ≡ take k (drop from ms)
  marks_of_lem zero from h = refl
  marks_of_lem (suc k) from h =
      let l : from < length ms = omega arith in
      rw (row_at ms vs from l, drop-cons ms from 0 l)
      (ap (λ (r : List ℕ). get_or ms from 0 ∷ r) (marks_of_lem k (from + 1) (omega arith) ∙ ap (λ (n : ℕ). take k (drop n ms)) (add-one from)))

  values_of : 4 * length ms ≤ length vs → Bytes vs → (k from : ℕ) → from + k ≤ length ms
      → value_bytes (take k (drop from (paired ms vs))) ≡ take (4 * k) (drop (4 * from) vs)
  values_of w bytes zero from h = refl
  values_of w bytes (suc k) from h =
      let l : from < length ms = omega arith in
      let p : 4 * (from + 1) ≡ 4 * from + 4 = omega arith in
      let q : 4 + 4 * k ≡ 4 * suc k = omega arith in
      rw (row_at ms vs from l)
      (ap (λ (r : List ℕ). bytes32 (value_at vs from) ++ r) (values_of w bytes k (from + 1) (omega arith) ∙ ap (λ (n : ℕ). take (4 * k) (drop n vs)) p)
      ∙ value_bytes_lem vs (4 * from) (4 * k) (omega arith) bytes
      ∙ ap (λ (n : ℕ). take n (drop (4 * from) vs)) q)

module _ (ms vs : List ℕ) (from to : ℕ) where
  pub stretch_long : from ≤ to → to ≤ length ms → length (stretch ms vs from to) ≡ to - from
  stretch_long h l = length-take-le (to - from) (drop from (paired ms vs)) (omega (arith, length-drop from (paired ms vs), length-paired ms vs))

  -- of these rows k fit
  pub copied : (b : List ℕ) (n i k : ℕ) → Rows ms vs → Bytes vs → from ≤ to → to ≤ length ms → i ≤ n → k ≡ min (to - from) (n - i)
      → sets (sets b (8 + i) (take k (drop from ms))) (8 + n + 4 * i) (take (4 * k) (drop (4 * from) vs)) ≡ put_rows b n i (stretch ms vs from to)
  copied b n i k rows bytes h l room fit =
      sym (fitted b n i (stretch ms vs from to) k room (omega (arith, stretch_long h l))
      ∙ ap (blocks b n i) (take-take k (to - from) (drop from (paired ms vs)) (omega arith))
      ∙ (λ z. sets (sets b (8 + i) (marks_of_lem ms vs k from (omega arith) z)) (8 + n + 4 * i) (values_of ms vs rows.values bytes k from (omega arith) z)))

-- Blocks of the file itself

-- of rows that fit, put twice, the second time changes nothing
blocks_again : (b : List ℕ) (n i : ℕ) (xs : List Row) → i + length xs ≤ n → blocks (blocks b n i xs) n i xs ≡ blocks b n i xs
blocks_again b n i xs h =
    let ms : List ℕ = marks xs in
    let vs : List ℕ = value_bytes xs in
    let k : ℕ = 8 + n + 4 * i in
    let low : 8 + i + length ms ≤ k = omega (arith, length-map xs (λ (x : Row). x.mark)) in
    ap (λ (l : List ℕ). sets l k vs) (sets-sets ms vs (sets b (8 + i) ms) (8 + i) k low ∙ ap (λ (l : List ℕ). sets l k vs) (sets_again ms b (8 + i)))
    ∙ sets_again vs (sets b (8 + i) ms) k

-- the rows that fit
abbrev front : ℕ → ℕ → List Row → List Row
front n i xs = take (min (length xs) (n - i)) xs

front_long : (n i : ℕ) (xs : List Row) → length (front n i xs) ≡ min (length xs) (n - i)
front_long n i xs = length-take-le (min (length xs) (n - i)) xs (omega arith)

put_again : (b : List ℕ) (n i : ℕ) (xs : List Row) → put_rows (put_rows b n i xs) n i xs ≡ put_rows b n i xs
put_again b n i xs = go (leb i n) refl
  where
    go : (u : Bool) → leb i n ≡ u → put_rows (put_rows b n i xs) n i xs ≡ put_rows b n i xs
    go true p =
        let h : i ≤ n = leb-true i n p in
        let k : ℕ = min (length xs) (n - i) in
        fitted (put_rows b n i xs) n i xs k h refl
        ∙ ap (λ (l : List ℕ). blocks l n i (front n i xs)) (fitted b n i xs k h refl)
        ∙ blocks_again b n i (front n i xs) (omega (arith, front_long n i xs))
        ∙ sym (fitted b n i xs k h refl)
    go false p = let l : n < i = leb-false i n p in none_put_on (put_rows b n i xs) n i xs (omega arith)

-- what is above a run of stores stays
drop_above : (vs l : List ℕ) (j m : ℕ) → j + length vs ≤ m → drop m (sets l j vs) ≡ drop m l
drop_above [] l j m h = refl
drop_above (v ∷ vs) l j m h = drop_above vs (set l j v) (suc j) m (omega arith) ∙ drop-set-lt m l j v (omega arith)

marks_front : (k : ℕ) (xs : List Row) → marks (take k xs) ≡ take k (marks xs)
marks_front zero xs = refl
marks_front (suc k) [] = refl
marks_front (suc k) (x ∷ xs) = ap (λ (l : List ℕ). x.mark ∷ l) (marks_front k xs)

values_front : (k : ℕ) (xs : List Row) → value_bytes (take k xs) ≡ take (4 * k) (value_bytes xs)
values_front zero xs = refl
values_front (suc k) [] = sym (take-nil (4 * suc k))
values_front (suc k) (x ∷ xs) =
    let e : 4 * suc k ≡ 4 + 4 * k = omega arith in
    ap (λ (l : List ℕ). bytes32 x.value ++ l) (values_front k xs)
    ∙ sym (ap (λ (n : ℕ). take n (bytes32 x.value ++ value_bytes xs)) e ∙ take-append-add (bytes32 x.value) (value_bytes xs) (4 * k))

-- rows stand where they were written
pub stands : {b out : List ℕ} {c r : Cursor} {xs : List Row} → Wrote b c xs r out → Standing out c.rows (record { from = c.next; to = r.next }) xs
stands {b} {out} {c} {r} {xs} w =
    record {
      counted = w.next;
      there = subst⁻¹ (λ (l : List ℕ). put_rows l c.rows c.next xs ≡ l) w.file (put_again b c.rows c.next xs);
    }

-- and still do after rows are written beyond them
blocks_apart : (b : List ℕ) (n i j : ℕ) (xs ys : List Row) → i + length xs ≤ j → j + length ys ≤ n
    → blocks (blocks b n j ys) n i xs ≡ blocks (blocks b n i xs) n j ys
blocks_apart b n i j xs ys h room =
    let ms : List ℕ = marks xs in
    let vs : List ℕ = value_bytes xs in
    let ns : List ℕ = marks ys in
    let ws : List ℕ = value_bytes ys in
    let mark : ℕ = 8 + i in
    let mark' : ℕ = 8 + j in
    let value : ℕ = 8 + n + 4 * i in
    let value' : ℕ = 8 + n + 4 * j in
    let long : length ms ≡ length xs = length-map xs (λ (x : Row). x.mark) in
    let long' : length ns ≡ length ys = length-map ys (λ (x : Row). x.mark) in
    ap (λ (l : List ℕ). sets l value vs)
    (sets-sets ms ws (sets b mark' ns) mark value' (omega (arith, long)) ∙ ap (λ (l : List ℕ). sets l value' ws) (sets-sets ms ns b mark mark' (omega (arith, long))))
    ∙ sets-sets vs ws (sets (sets b mark ms) mark' ns) value value' (omega (arith, length_values xs))
    ∙ ap (λ (l : List ℕ). sets l value' ws) (sym (sets-sets ns vs (sets b mark ms) mark' value (omega (arith, long'))))

module _ {b : List ℕ} {n : ℕ} {s : Span} {xs : List Row} (held : Standing b n s xs) where
  -- below a row of the file all rows were counted
  whole_there : (i : ℕ) → s.to ≤ i → i < n → n ≤ 12000 → s.to ≡ s.from + length xs
  whole_there i h l few = omega (arith, held.counted)

  pub still_stands : {c r : Cursor} {ys : List Row} {out : List ℕ} → c.rows ≡ n → s.to ≤ c.next → n ≤ 12000 → Wrote b c ys r out → Standing out n s xs
  still_stands {c} {r} {ys} {out} same h few w = go (leb n c.next) refl
    where
      is : out ≡ put_rows b n c.next ys
      is = w.file ∙ ap (λ (m : ℕ). put_rows b m c.next ys) same

      go : (u : Bool) → leb n c.next ≡ u → Standing out n s xs
      go true p =
          let l : n ≤ c.next = leb-true n c.next p in
          subst⁻¹ (λ (o : List ℕ). Standing o n s xs) (is ∙ none_put_on b n c.next ys l) held
      go false p =
          let l : c.next < n = leb-false n c.next p in
          let e : s.to ≡ s.from + length xs = whole_there c.next h l few in
          let k : ℕ = min (length ys) (n - c.next) in
          let long : length (front n c.next ys) ≡ k = front_long n c.next ys in
          let put : out ≡ blocks b n c.next (front n c.next ys) = is ∙ fitted b n c.next ys k (omega arith) refl in
          let room : s.from + length xs ≤ n = omega arith in
          record {
            counted = held.counted;
            there =
                as_blocks out n s.from xs room
                ∙ ap (λ (o : List ℕ). blocks o n s.from xs) put
                ∙ blocks_apart b n s.from c.next xs (front n c.next ys) (omega arith) (omega arith)
                ∙ ap (λ (o : List ℕ). blocks o n c.next (front n c.next ys)) (sym (as_blocks b n s.from xs room) ∙ held.there)
                ∙ sym put;
          }

  -- the blocks that are read there, of which k rows fit, are those that are to be put
  module _ (i k : ℕ) (h : s.to ≤ i) (l : i < n) (few : n ≤ 12000) (long : 8 + 5 * n ≤ length b) (fit : k ≡ min (s.to - s.from) (n - i)) where
    mark : ℕ
    mark = 8 + s.from

    value : ℕ
    value = 8 + n + 4 * s.from

    all_there : s.to ≡ s.from + length xs
    all_there = whole_there i h l few

    low : mark + length (marks xs) ≤ value
    unfolding mark value
    low = omega (arith, length-map xs (λ (x : Row). x.mark), all_there)

    same : b ≡ sets (sets b mark (marks xs)) value (value_bytes xs)
    unfolding mark value
    same = sym held.there ∙ as_blocks b n s.from xs (omega (arith, all_there))

    marks_there : take k (drop mark b) ≡ marks (take k xs)
    unfolding mark value
    marks_there =
        let ms : List ℕ = marks xs in
        let m : length ms ≡ length xs = length-map xs (λ (x : Row). x.mark) in
        let under : 8 + s.from + length ms ≤ length (sets b (8 + n + 4 * s.from) (value_bytes xs)) = omega (arith, m, all_there, length-sets b (8 + n + 4 * s.from) (value_bytes xs)) in
        sym (take-take k (length ms) (drop mark b) (omega (arith, m, all_there)))
        ∙ ap (λ (o : List ℕ). take k (take (length ms) (drop mark o))) (same ∙ sym (sets-sets ms (value_bytes xs) b mark value low))
        ∙ ap (take k) (sets_read ms (sets b value (value_bytes xs)) mark under)
        ∙ sym (marks_front k xs)

    values_there : take (4 * k) (drop value b) ≡ value_bytes (take k xs)
    unfolding mark value
    values_there =
        let vs : List ℕ = value_bytes xs in
        let m : length vs ≡ 4 * length xs = length_values xs in
        let under : 8 + n + 4 * s.from + length vs ≤ length (sets b (8 + s.from) (marks xs)) = omega (arith, m, all_there, length-sets b (8 + s.from) (marks xs)) in
        sym (take-take (4 * k) (length vs) (drop value b) (omega (arith, m, all_there)))
        ∙ ap (λ (o : List ℕ). take (4 * k) (take (length vs) (drop value o))) same
        ∙ ap (take (4 * k)) (sets_read vs (sets b mark (marks xs)) value under)
        ∙ sym (values_front k xs)

    pub repeated : (b' : List ℕ) → b' ≡ sets b (8 + i) (take k (drop (8 + s.from) b))
        → sets b' (8 + n + 4 * i) (take (4 * k) (drop (8 + n + 4 * s.from) b')) ≡ put_rows b n i xs
    unfolding mark value
    repeated b' e =
        let ms : List ℕ = marks (take k xs) in
        let m : length ms ≡ k = length-map (take k xs) (λ (x : Row). x.mark) ∙ length-take-le k xs (omega (arith, all_there)) in
        let first : b' ≡ sets b (8 + i) ms = e ∙ ap (sets b (8 + i)) marks_there in
        let rest : drop (8 + n + 4 * s.from) b' ≡ drop (8 + n + 4 * s.from) b =
        ap (drop (8 + n + 4 * s.from)) first ∙ drop_above ms b (8 + i) (8 + n + 4 * s.from) (omega (arith, m)) in
        (λ z. sets (first z) (8 + n + 4 * i) ((ap (take (4 * k)) rest ∙ values_there) z))
        ∙ sym (fitted b n i xs k (omega arith) (omega (arith, all_there)))
