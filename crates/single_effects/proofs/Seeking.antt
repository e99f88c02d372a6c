-- The first effect with too many choices, sought piece by piece.
use mathlib.Core.Path.{◌≡◌, refl, sym, ap, ◌∙◌, subst}
use mathlib.Core.Bool.{Bool, true, false, not, cond, ◌&&◌}
use mathlib.Core.List.{List, [], ◌∷◌, ◌++◌}
use mathlib.Core.Option.{none, some}
use Prim.Native.Nat.{ℕ, zero, suc, ◌+◌, ◌-◌, ◌≤◌, ◌<◌}
use mathlib.Core.Logic.{◌⊎◌, inl, inr}
use native.Mathlib.Nat.{eq-or-lt_of_le}
use native.Mathlib.Numerals.{add-one}
use native.Mathlib.Omega.{arith}
use lib.Dec.{T, eqb, leb, ltb, leb→le}
use lib.ListN.{length, drop, get_or}
use borrow.Author.Tests.{lt-ltb, le-ltb, leb-false, eq-eqb}
use Rattle.lists.proofs.Tests.{tests, as_t, as_false, not_both}
use Rattle.meaning.specs.Task.{Effect, Task}
use Rattle.task.specs.Marks.{EFFECT}
use Rattle.task.specs.TaskRows.{Row, task_rows, effect_rows}
use Rattle.task.specs.File.{paired}
use Rattle.task.proofs.Positions.{drop_next}
use Rattle.singling.specs.Wide.{is_wide, first_wide}
use Rattle.singling.proofs.Capped.{counted_wide}
use Rattle.singling.proofs.Wide.{wide_effect}
use Rattle.single_effects.specs.Shapes.{shape_at}
use Rattle.single_effects.specs.Whole.{NoEffects}
use Rattle.single_effects.specs.declared.shapes.Shape.{Shape}
use Rattle.single_effects.proofs.EffectShape.{choices_found, after_found, left_found}
use Rattle.single_effects.proofs.Pieces.{Piece, plain, effect, rows_of, Sound, task_pieces, task_pieces_lem, task_sound}
use Rattle.single_effects.proofs.Walking.{ends, none_left, effect_here, plain_here}

-- none has been found before row i
pub record Seeking (ms vs : List ℕ) (t : Task) (i : ℕ) : Type 0 where
  pub left : List Piece
  pub there : drop i (paired ms vs) ≡ rows_of left
  pub sound : Sound left
  pub same : first_wide i (rows_of left) ≡ first_wide 0 (task_rows t)

pub seeking_begins : (ms vs : List ℕ) (t : Task) → paired ms vs ≡ task_rows t → Seeking ms vs t 0
seeking_begins ms vs t e =
    record { left = task_pieces t; there = e ∙ sym (task_pieces_lem t); sound = task_sound t; same = ap (first_wide 0) (task_pieces_lem t) }

module _ (ms vs : List ℕ) (t : Task) (i : ℕ) (S : Seeking ms vs t i) where
  -- after the last row
  pub none_found : length ms ≤ i → none ≡ first_wide 0 (task_rows t)
  none_found h =
      let e : S.left ≡ [] = none_left ms vs i S.left S.there h in
      sym (ap (λ (ps : List Piece). first_wide i (rows_of ps)) e) ∙ S.same

  module _ (l : i < length ms) where
    pub seeking_on : (get_or ms i 0 ≡ EFFECT → ⊥) → Seeking ms vs t (i + 1)
    seeking_on m = build (plain_here ms vs i S.left S.there l m)
      where
        build : (x : Row) × (qs : List Piece) × (S.left ≡ plain x ∷ qs) → Seeking ms vs t (i + 1)
        build (x, qs, q) =
            let s : Sound (plain x ∷ qs) = subst Sound q S.sound in
            let passed : first_wide i (x ∷ rows_of qs) ≡ first_wide (i + 1) (rows_of qs) = rw (s.0, add-one i) refl in
            record {
              left = qs;
              there = drop_next i (paired ms vs) x (rows_of qs) (S.there ∙ ap rows_of q);
              sound = s.1;
              same = sym passed ∙ sym (ap (λ (ps : List Piece). first_wide i (rows_of ps)) q) ∙ S.same;
            }

    module _ (m : get_or ms i 0 ≡ EFFECT) (r : Shape) (f : r ≡ shape_at ms vs i) where
      module _ (e : Effect) (qs : List Piece) (q : S.left ≡ effect e ∷ qs) where
        s : Sound (effect e ∷ qs)
        s = subst Sound q S.sound

        at : drop i (paired ms vs) ≡ effect_rows e ++ rows_of qs
        at = S.there ∙ ap rows_of q

        told : is_wide e.condition ≡ ltb 64 r.choices
        told = sym (counted_wide e.condition) ∙ ap (ltb 64) (sym (choices_found ms vs i e (rows_of qs) at s.0 r f))

        by_choices : cond (ltb 64 r.choices) (some i) (first_wide r.changes.to (rows_of qs)) ≡ first_wide 0 (task_rows t)
        by_choices =
            let n : i + length (effect_rows e) ≡ r.changes.to = sym (after_found ms vs i e (rows_of qs) at s.0 r f) in
            sym (ap (λ (ps : List Piece). first_wide i (rows_of ps)) q
            ∙ wide_effect i e (rows_of qs) (ends (rows_of qs) s.0)
            ∙ λ z. cond (told z) (some i) (first_wide (n z) (rows_of qs)))
            ∙ S.same

      pub found_here : 64 < r.choices → some i ≡ first_wide 0 (task_rows t)
      found_here h = build (effect_here ms vs i S.left S.there S.sound l m)
        where
          build : (e : Effect) × (qs : List Piece) × (S.left ≡ effect e ∷ qs) → some i ≡ first_wide 0 (task_rows t)
          build (e, qs, q) = rw (lt-ltb 64 r.choices h) at by_choices e qs q

      pub seeking_past : r.choices ≤ 64 → Seeking ms vs t r.changes.to
      seeking_past h = build (effect_here ms vs i S.left S.there S.sound l m)
        where
          build : (e : Effect) × (qs : List Piece) × (S.left ≡ effect e ∷ qs) → Seeking ms vs t r.changes.to
          build (e, qs, q) =
              record {
                left = qs;
                there = left_found ms vs i e (rows_of qs) (at e qs q) (s e qs q).0 r f;
                sound = (s e qs q).1;
                same = rw (le-ltb 64 r.choices h) at by_choices e qs q;
              }

-- so many rows that open no effect
pub seeking_through : (ms vs : List ℕ) (t : Task) (n i j : ℕ) → i + n ≡ j → j ≤ length ms → NoEffects ms i j → Seeking ms vs t i → Seeking ms vs t j
seeking_through ms vs t zero i j e h other S = let q : i ≡ j = omega arith in subst (Seeking ms vs t) q S
seeking_through ms vs t (suc n) i j e h other S =
    seeking_through ms vs t n (i + 1) j (omega arith) h (λ m a b. other m (omega arith) b)
    (seeking_on ms vs t i S (omega arith) (other i (omega arith) (omega arith)))

-- Rows that open no effect

pub no_both : (ms : List ℕ) (a b c : ℕ) → NoEffects ms a b → NoEffects ms b c → NoEffects ms a c
no_both ms a b c f g m l h = go (leb b m) refl
  where
    go : (k : Bool) → leb b m ≡ k → get_or ms m 0 ≡ EFFECT → ⊥
    go true e = g m (leb→le b m (as_t e)) h
    go false e = f m l (leb-false b m e)

pub no_four : (ms : List ℕ) (i : ℕ)
    → T (not (eqb (get_or ms i 0) EFFECT) && not (eqb (get_or ms (i + 1) 0) EFFECT) && not (eqb (get_or ms (i + 2) 0) EFFECT) && not (eqb (get_or ms (i + 3) 0) EFFECT))
    → NoEffects ms i (i + 4)
no_four ms i t m a b = go (m - i) (omega arith) (omega arith)
  where
    other : (x : ℕ) → T (not (eqb x EFFECT)) → x ≡ EFFECT → ⊥
    other x h q = not_both (eq-eqb x EFFECT q) (as_false (eqb x EFFECT) h)

    go : (d : ℕ) → m ≡ i + d → d < 4 → get_or ms m 0 ≡ EFFECT → ⊥
    go zero e h = let q : m ≡ i = omega arith in rw q (other (get_or ms i 0) (search tests))
    go (suc zero) e h = rw e (other (get_or ms (i + 1) 0) (search tests))
    go (suc (suc zero)) e h = rw e (other (get_or ms (i + 2) 0) (search tests))
    go (suc (suc (suc zero))) e h = rw e (other (get_or ms (i + 3) 0) (search tests))
    go (suc (suc (suc (suc d)))) e h = absurd (omega arith)

pub no_more : (ms : List ℕ) (last i : ℕ) → NoEffects ms last i → (get_or ms i 0 ≡ EFFECT → ⊥) → NoEffects ms last (i + 1)
no_more ms last i h n m a b q = let l : m ≤ i = omega arith in go (eq-or-lt_of_le l)
  where
    go : (m ≡ i) ⊎ (m < i) → ⊥
    go (inl e) = n (subst (λ (k : ℕ). get_or ms k 0 ≡ EFFECT) e q)
    go (inr l) = h m a l q
