-- A list whose parts are written one after the other, as their rows are read.
use mathlib.Core.Path.{◌≡◌, refl, sym, ap, ◌∙◌, subst}
use mathlib.Core.Bool.{true, false, true≢false}
use mathlib.Core.List.{List, [], ◌∷◌, ◌++◌, append_assoc}
use Prim.Native.Nat.{ℕ, suc, ◌+◌, ◌≤◌, ◌<◌}
use native.Mathlib.Nat.{add-zero}
use native.Mathlib.Omega.{arith}
use lib.Dec.{leb}
use lib.ListN.{length, drop, length-append}
use borrow.Author.Tests.{leb-true, le-leb, lt-leb}
use Rattle.lists.specs.Lists.{concat_map}
use Rattle.task.specs.TaskRows.{Row, row}
use Rattle.task.specs.File.{paired}
use Rattle.task.specs.Rows.{between, Stops}
use Rattle.lists.proofs.Tests.{not_both, both_true}
use Rattle.task.proofs.Positions.{drop_after}
use Rattle.text.specs.Area.{Wrote}
use Rattle.text.proofs.Writing.{then, no_bytes}
use Rattle.pddl_parts.specs.Rows.{mark_at}
use Rattle.pddl_parts.specs.Pieces.{Piece}
use Rattle.pddl_parts.specs.Writing.{Stretch, stretch, Spells, PieceAnswer}
use Rattle.pddl_parts.specs.declared.conditions.Emitted.{Emitted}
use Rattle.pddl_parts.proofs.Listing.{narrowed, opens_with, first_mark_lem}

-- A piece with words about it

abbrev pub prefixed : {A : Type 0} → List ℕ → Piece A → Piece A
prefixed {A} w p = record { rows = p.rows; text = λ (a : A). w ++ p.text a; goes = p.goes }

abbrev pub enclosed : {A : Type 0} → List ℕ → Piece A → List ℕ → Piece A
enclosed {A} w p v = record { rows = p.rows; text = λ (a : A). w ++ (p.text a ++ v); goes = p.goes }

module _ {A : Type 0} {p : Piece A} {s : Stretch} {b : List ℕ} {at : ℕ} {w : List ℕ} {k : ℕ} {mid : List ℕ} {r : Emitted} {out : List ℕ} where
  pub prefix : Wrote b at w k mid → PieceAnswer p s mid k r out → PieceAnswer (prefixed w p) s b at r out
  prefix before piece = record { puts = λ a xs e stops. let (x, next) = piece.puts a xs e stops in (then before x, next) }

  pub enclose : {v : List ℕ} {j : ℕ} {last : List ℕ} → Wrote b at w k mid → PieceAnswer p s mid k r out → Wrote out r.at v j last
      → PieceAnswer (enclosed w p v) s b at (record { at = j; next = r.next }) last
  enclose before piece after =
      record { puts = λ a xs e stops. let (x, next) = piece.puts a xs e stops in (then before (then x after), next) }

-- a range of one mark
only_one : (n m : ℕ) → between n n m ≡ true → m ≡ n
only_one n m e = let (p, q) = both_true (leb n m) (leb m n) e in omega (arith, leb-true n m p, leb-true m n q)

itself : (n : ℕ) → between n n n ≡ true
itself n = rw (le-leb n n (omega arith))

-- a mark below a range is not in it
below : (head most : ℕ) → between (suc head) most head ≡ false
below head most = rw (lt-leb (suc head) head (omega arith))

-- Parts of a list: each is a row with mark `head`, and rows after it with marks up to `most`
pub record Parts (A : Type 0) : Type 0 where
  pub head : ℕ
  pub most : ℕ
  pub inside : between head most head ≡ true
  pub value : A → ℕ
  pub body : A → List Row
  -- the text of part n, and of those from n on
  pub piece : ℕ → A → List ℕ
  pub text : ℕ → List A → List ℕ
  pub no_more : (n : ℕ) → text n [] ≡ []
  pub one_more : (n : ℕ) (a : A) (l : List A) → text n (a ∷ l) ≡ piece n a ++ text (n + 1) l

abbrev pub rows_of : {A : Type 0} → Parts A → A → List Row
rows_of P a = row P.head (P.value a) ∷ P.body a

-- part n, and the whole list
abbrev pub part : {A : Type 0} → Parts A → ℕ → Piece A
part P n = record { rows = rows_of P; text = P.piece n; goes = between (suc P.head) P.most }

abbrev pub whole : {A : Type 0} → Parts A → Piece (List A)
whole P = record { rows = concat_map (rows_of P); text = P.text 0; goes = between P.head P.most }

module _ {A : Type 0} (P : Parts A) (ms vs : List ℕ) where
  -- part n is the next to be written, at place k, from row i on
  pub record Left (b : List ℕ) (at from : ℕ) (l : List A) (xs : List Row) (out : List ℕ) (k i n : ℕ) : Type 0 where
    pub rest : List A
    pub rows : drop i (paired ms vs) ≡ concat_map (rows_of P) rest ++ xs
    pub read : i + length (concat_map (rows_of P) rest) ≡ from + length (concat_map (rows_of P) l)
    pub onward : (r : ℕ) (last : List ℕ) → Wrote out k (P.text n rest) r last → Wrote b at (P.text 0 l) r last

  abbrev pub Emitting : List ℕ → ℕ → ℕ → List ℕ → ℕ → ℕ → ℕ → Type 0
  Emitting b at from out k i n =
      (l : List A) (xs : List Row) → drop from (paired ms vs) ≡ concat_map (rows_of P) l ++ xs → Stops (between P.head P.most) xs → Left b at from l xs out k i n

  pub begin : (b : List ℕ) (at from : ℕ) → Emitting b at from b at from 0
  begin b at from l xs e s = record { rest = l; rows = e; read = refl; onward = λ r last w. w }

  -- what stands after a part
  stops_after : (rest : List A) (xs : List Row) → Stops (between P.head P.most) xs → Stops (between (suc P.head) P.most) (concat_map (rows_of P) rest ++ xs)
  stops_after [] xs s = narrowed P.head P.most (suc P.head) P.most (omega arith) (omega arith) xs s
  stops_after (a ∷ rest) xs s = below P.head P.most

  none : (xs : List Row) → Stops (between P.head P.most) xs → opens_with (between P.head P.head) xs ≡ true → ⊥
  none [] s o = true≢false (sym o)
  none (x ∷ xs) s o = not_both (ap (between P.head P.most) (only_one P.head x.mark o) ∙ P.inside) s

  module _ (b : List ℕ) (at from : ℕ) (out : List ℕ) (k i n : ℕ) (E : Emitting b at from out k i n) where
    -- after the last part
    finished : mark_at P.head P.head ms i ≡ false → (l : List A) (xs : List Row) → drop from (paired ms vs) ≡ concat_map (rows_of P) l ++ xs → Stops (between P.head P.most) xs
        → Wrote b at (P.text 0 l) k out × (i ≡ from + length (concat_map (rows_of P) l))
    finished e l xs spelled s = go (E l xs spelled s).rest (E l xs spelled s).rows (E l xs spelled s).read (E l xs spelled s).onward
      where
        go : (rest : List A) → drop i (paired ms vs) ≡ concat_map (rows_of P) rest ++ xs → i + length (concat_map (rows_of P) rest) ≡ from + length (concat_map (rows_of P) l)
            → ((r : ℕ) (last : List ℕ) → Wrote out k (P.text n rest) r last → Wrote b at (P.text 0 l) r last)
            → Wrote b at (P.text 0 l) k out × (i ≡ from + length (concat_map (rows_of P) l))
        go [] rows read onward =
            (onward k out (subst (λ (t : List ℕ). Wrote out k t k out) (sym (P.no_more n)) (no_bytes out k)), sym (add-zero i) ∙ read)
        go (a ∷ rest) rows read onward = absurd (not_both (first_mark_lem P.head P.head ms vs i ∙ ap (opens_with (between P.head P.head)) rows ∙ itself P.head) e)

    pub done : mark_at P.head P.head ms i ≡ false → PieceAnswer (whole P) (stretch ms vs from) b at (record { at = k; next = i }) out
    done e = record { puts = finished e }

    -- the part that row i opens
    pub next_part : mark_at P.head P.head ms i ≡ true → Spells (whole P) (stretch ms vs from) → Spells (part P n) (stretch ms vs i)
    next_part e (l, xs, spelled, s) = go (E l xs spelled s).rest (E l xs spelled s).rows
      where
        go : (rest : List A) → drop i (paired ms vs) ≡ concat_map (rows_of P) rest ++ xs → Spells (part P n) (stretch ms vs i)
        go [] rows = absurd (none xs s (sym (ap (opens_with (between P.head P.head)) rows) ∙ sym (first_mark_lem P.head P.head ms vs i) ∙ e))
        go (a ∷ rest) rows = (a, concat_map (rows_of P) rest ++ xs, rows ∙ append_assoc (rows_of P a) (concat_map (rows_of P) rest) xs, stops_after rest xs s)

    -- a part more
    pub more : mark_at P.head P.head ms i ≡ true → (r : Emitted) (last : List ℕ) → PieceAnswer (part P n) (stretch ms vs i) out k r last
        → Emitting b at from last r.at r.next (n + 1)
    more e r last piece l xs spelled s = go (E l xs spelled s).rest (E l xs spelled s).rows (E l xs spelled s).read (E l xs spelled s).onward
      where
        go : (rest : List A) → drop i (paired ms vs) ≡ concat_map (rows_of P) rest ++ xs → i + length (concat_map (rows_of P) rest) ≡ from + length (concat_map (rows_of P) l)
            → ((r : ℕ) (last : List ℕ) → Wrote out k (P.text n rest) r last → Wrote b at (P.text 0 l) r last)
            → Left b at from l xs last r.at r.next (n + 1)
        go [] rows read onward = absurd (none xs s (sym (ap (opens_with (between P.head P.head)) rows) ∙ sym (first_mark_lem P.head P.head ms vs i) ∙ e))
        go (a ∷ rest) rows read onward =
            let here : drop i (paired ms vs) ≡ rows_of P a ++ (concat_map (rows_of P) rest ++ xs) = rows ∙ append_assoc (rows_of P a) (concat_map (rows_of P) rest) xs in
            let (w, next) = piece.puts a (concat_map (rows_of P) rest ++ xs) here (stops_after rest xs s) in
            record {
              rest = rest;
              rows = ap (λ (j : ℕ). drop j (paired ms vs)) next ∙ drop_after i (paired ms vs) (rows_of P a) (concat_map (rows_of P) rest ++ xs) here;
              read = omega (arith, next, read, length-append (rows_of P a) (concat_map (rows_of P) rest));
              onward = λ q final v. onward q final (subst (λ (t : List ℕ). Wrote out k t q final) (sym (P.one_more n a rest)) (then w v));
            }

  -- A loop over the parts

  -- what holds before part n is looked for, at row i
  pub record Looping (b : List ℕ) (at from : ℕ) (out : List ℕ) (k i n : ℕ) : Type 0 where
    pub size : length out ≡ length b
    pub begun : from ≤ i
    pub rows_left : i ≤ length ms
    pub emitting : Emitting b at from out k i n

  pub looping : (b : List ℕ) (at from : ℕ) → from ≤ length ms → Looping b at from b at from 0
  looping b at from h = record { size = refl; begun = omega arith; rows_left = h; emitting = begin b at from }

module _ {A : Type 0} {P : Parts A} {ms vs b : List ℕ} {at from : ℕ} {out : List ℕ} {k i n : ℕ} (L : Looping P ms vs b at from out k i n) where
  pub loop_part : mark_at P.head P.head ms i ≡ true → Spells (whole P) (stretch ms vs from) → Spells (part P n) (stretch ms vs i)
  loop_part = next_part P ms vs b at from out k i n L.emitting

  pub looped : {r : Emitted} {last : List ℕ} → mark_at P.head P.head ms i ≡ true → PieceAnswer (part P n) (stretch ms vs i) out k r last
      → length last ≡ length out → i < r.next → r.next ≤ length ms → Looping P ms vs b at from last r.at r.next (n + 1)
  looped {r} {last} e piece size h l = record {
    size = size ∙ L.size;
    begun = omega (arith, L.begun);
    rows_left = l;
    emitting = more P ms vs b at from out k i n L.emitting e r last piece;
  }

  pub all_done : mark_at P.head P.head ms i ≡ false → PieceAnswer (whole P) (stretch ms vs from) b at (record { at = k; next = i }) out
  all_done = done P ms vs b at from out k i n L.emitting
