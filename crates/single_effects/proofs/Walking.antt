-- The pieces that are left from a row on: at an EFFECT row an effect comes first, at any other a row alone.
use mathlib.Core.Path.{◌≡◌, refl, sym, ap, ◌∙◌}
use mathlib.Core.Bool.{true, false, true≢false}
use mathlib.Core.List.{List, [], ◌∷◌, ◌++◌, append_assoc}
use Prim.Native.Nat.{ℕ, suc, ◌+◌, ◌-◌, ◌≤◌, ◌<◌}
use native.Mathlib.Omega.{arith}
use lib.Dec.{eqb}
use lib.ListN.{length, drop, take, get_or, length-append, length-take, length-drop, take-append-drop}
use lib.Seq.{take-suc, get_or-drop, take_all, take-append_seam, drop-drop}
use borrow.Author.Tests.{eq-eqb, ne_eqb}
use Rattle.task.specs.Marks.{EFFECT, CLAUSE, HOLDS, LACKS, DELETE}
use Rattle.meaning.specs.Task.{Effect}
use Rattle.task.specs.TaskRows.{Row}
use Rattle.task.specs.File.{paired}
use Rattle.task.specs.Rows.{between, Stops}
use Rattle.task.proofs.Bytes.{length-paired}
use Rattle.task.proofs.Positions.{drop_next}
use Rattle.task.proofs.Reading.{mark_at_lem, row_end}
use Rattle.layout.specs.Sides.{stretch}
use Rattle.singling.proofs.Wide.{Ends}
use Rattle.single_effects.specs.Whole.{NoEffects}
use Rattle.single_effects.proofs.Pieces.{Piece, plain, effect, rows_of, new_rows_of, Sound}

-- rows that are not of an effect do not go on with its condition
pub ends : (xs : List Row) → Stops (between CLAUSE DELETE) xs → Ends xs
ends [] s = refl
ends (x ∷ xs) s = rw (other CLAUSE refl, other HOLDS refl, other LACKS refl) refl
  where
    other : (n : ℕ) → between CLAUSE DELETE n ≡ true → eqb x.mark n ≡ false
    other n t = ne_eqb x.mark n (λ e. true≢false (sym t ∙ sym (ap (between CLAUSE DELETE) e) ∙ s))

-- the pieces ps stand from row i on
module _ (ms vs : List ℕ) (i : ℕ) where
  -- there are some
  some_left : i < length ms → drop i (paired ms vs) ≡ [] → ⊥
  some_left l e = omega (arith, ap length e, length-drop i (paired ms vs), length-paired ms vs)

  pub none_left : (ps : List Piece) → drop i (paired ms vs) ≡ rows_of ps → length ms ≤ i → ps ≡ []
  none_left [] e h = refl
  none_left (plain x ∷ ps) e h = absurd (omega (arith, ap length (sym (row_end ms vs i h) ∙ e)))
  none_left (effect f ∷ ps) e h = absurd (omega (arith, ap length (sym (row_end ms vs i h) ∙ e)))

  pub effect_here : (ps : List Piece) → drop i (paired ms vs) ≡ rows_of ps → Sound ps → i < length ms → get_or ms i 0 ≡ EFFECT
      → (e : Effect) × (qs : List Piece) × (ps ≡ effect e ∷ qs)
  effect_here [] e s l m = absurd (some_left l e)
  effect_here (plain x ∷ ps) e s l m =
      absurd (true≢false (sym (eq-eqb x.mark EFFECT (sym (mark_at_lem ms vs i l e) ∙ m)) ∙ s.0))
  effect_here (effect f ∷ ps) e s l m = (f, ps, refl)

  pub plain_here : (ps : List Piece) → drop i (paired ms vs) ≡ rows_of ps → i < length ms → (get_or ms i 0 ≡ EFFECT → ⊥)
      → (x : Row) × (qs : List Piece) × (ps ≡ plain x ∷ qs)
  plain_here [] e l m = absurd (some_left l e)
  plain_here (plain x ∷ ps) e l m = (x, ps, refl)
  plain_here (effect f ∷ ps) e l m = absurd (m (mark_at_lem ms vs i l e))

-- a row more
pub stretch_on : (ms vs : List ℕ) (from i : ℕ) (x : Row) (xs : List Row) → from ≤ i → i < length ms → drop i (paired ms vs) ≡ x ∷ xs
    → stretch ms vs from (i + 1) ≡ stretch ms vs from i ++ (x ∷ [])
stretch_on ms vs from i x xs h l e =
    let rows : List Row = paired ms vs in
    let n : i + 1 - from ≡ suc (i - from) = omega arith in
    let m : from + (i - from) ≡ i + 0 = omega arith in
    ap (λ (k : ℕ). take k (drop from rows)) n
    ∙ take-suc (drop from rows) (i - from) x (omega (arith, length-drop from rows, length-paired ms vs))
    ∙ ap (λ (y : Row). stretch ms vs from i ++ (y ∷ []))
    (get_or-drop from rows (i - from) x ∙ ap (λ (k : ℕ). get_or rows k x) m ∙ sym (get_or-drop i rows 0 x) ∙ ap (λ (ys : List Row). get_or ys 0 x) e)

-- so many rows more
pub stretch_more : (ms vs : List ℕ) (from i j : ℕ) (xs rest : List Row) → from ≤ i → i ≤ length ms → drop i (paired ms vs) ≡ xs ++ rest
    → j ≡ i + length xs → stretch ms vs from j ≡ stretch ms vs from i ++ xs
stretch_more ms vs from i j xs rest h l e q =
    let rows : List Row = paired ms vs in
    let done : List Row = stretch ms vs from i in
    let n : from + (i - from) ≡ i = omega arith in
    let all : drop from rows ≡ (done ++ xs) ++ rest =
    sym (take-append-drop (i - from) (drop from rows))
    ∙ ap (λ (ys : List Row). done ++ ys) (drop-drop (i - from) from rows ∙ ap (λ (k : ℕ). drop k rows) n ∙ e)
    ∙ sym (append_assoc done xs rest) in
    let long : j - from ≡ length (done ++ xs) =
    omega (arith, length-append done xs, length-take (i - from) (drop from rows), length-drop from rows, length-paired ms vs) in
    ap (λ (k : ℕ). take k (drop from rows)) long ∙ ap (take (length (done ++ xs))) all ∙ take-append_seam (done ++ xs) rest

-- without an effect nothing is new
pub nothing_new : (ms vs : List ℕ) (i : ℕ) (ps : List Piece) → drop i (paired ms vs) ≡ rows_of ps → NoEffects ms i (length ms) → new_rows_of ps ≡ rows_of ps
nothing_new ms vs i [] e h = refl
nothing_new ms vs i (plain x ∷ ps) e h =
    ap (λ (xs : List Row). x ∷ xs)
    (nothing_new ms vs (i + 1) ps (drop_next i (paired ms vs) x (rows_of ps) e) (λ m l. h m (omega arith)))
nothing_new ms vs i (effect f ∷ ps) e h =
    let l : i < length ms = omega (arith, ap length e, length-drop i (paired ms vs), length-paired ms vs) in
    absurd (h i (omega arith) l (mark_at_lem ms vs i l e))

-- the rows from `from` on, and those from row i on
pub all_left : (ms vs : List ℕ) (from i : ℕ) → from ≤ i → stretch ms vs from (length ms) ≡ stretch ms vs from i ++ drop i (paired ms vs)
all_left ms vs from i h =
    let rows : List Row = paired ms vs in
    let n : from + (i - from) ≡ i = omega arith in
    take_all (length ms - from) (drop from rows) (omega (arith, length-drop from rows, length-paired ms vs))
    ∙ sym (take-append-drop (i - from) (drop from rows))
    ∙ ap (λ (xs : List Row). stretch ms vs from i ++ xs) (drop-drop (i - from) from rows ∙ ap (λ (k : ℕ). drop k rows) n)
