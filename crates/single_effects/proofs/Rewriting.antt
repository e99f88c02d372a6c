-- The rows of the new task, written piece by piece: rows between effects, and effects with one choice, are copied when the next effect with
-- several comes.
use mathlib.Core.Path.{◌≡◌, sym, ap, ◌∙◌, subst}
use mathlib.Core.List.{List, [], ◌∷◌, ◌++◌, append_assoc, append-nil}
use Prim.Native.Nat.{ℕ, ◌+◌, ◌≤◌, ◌<◌}
use native.Mathlib.Omega.{arith}
use lib.Dec.{T, nltb→le}
use lib.ListN.{length, drop, get_or, length-append, length-drop}
use Rattle.lists.specs.Lists.{all, concat_map}
use Rattle.meaning.specs.Task.{Effect, Task}
use Rattle.task.specs.Marks.{EFFECT}
use Rattle.task.specs.TaskRows.{Row, effect_rows, task_rows}
use Rattle.task.specs.File.{paired}
use Rattle.lists.proofs.Tests.{tests}
use Rattle.task.proofs.Bytes.{length-paired}
use Rattle.task.proofs.Positions.{drop_next}
use Rattle.layout.specs.Sides.{stretch}
use Rattle.writer.specs.Writer.{Room, Wrote}
use Rattle.writer.specs.declared.Cursor.{Cursor}
use Rattle.writer.proofs.Putting.{Onward, Kept, then, as_rows, kept_none, kept_on, no_row}
use Rattle.singling.specs.Singled.{choice_count, singled}
use Rattle.singling.proofs.Twice.{effect_stays}
use Rattle.single_effects.specs.Shapes.{shape_at, InOrder}
use Rattle.single_effects.specs.Effects.{EffectAt}
use Rattle.single_effects.specs.Whole.{NoEffects, Narrow}
use Rattle.single_effects.specs.declared.shapes.Shape.{Shape}
use Rattle.single_effects.proofs.EffectShape.{left_found, effect_found}
use Rattle.single_effects.proofs.Pieces.{Piece, plain, effect, rows_of, new_effects, new_rows_of, Sound, narrow_piece, task_pieces, task_pieces_lem, new_pieces, task_sound, task_narrow}
use Rattle.single_effects.proofs.Walking.{effect_here, plain_here, stretch_on, stretch_more, nothing_new, all_left}

-- the rows from `from` to row i are still to be copied, and after them come the pieces that are left
pub record Rewriting (b : List ℕ) (c : Cursor) (t : Task) (ms vs : List ℕ) (from i : ℕ) (out : List ℕ) (k : Cursor) : Type 0 where
  pub order : from ≤ i
  pub inside : i ≤ length ms
  pub left : List Piece
  pub there : drop i (paired ms vs) ≡ rows_of left
  pub sound : Sound left
  pub narrow : T (all narrow_piece left)
  pub so_far : Kept b out k
  pub onward : Onward b c (task_rows (singled t)) out k (stretch ms vs from i ++ new_rows_of left)

pub rewriting_begins : (b : List ℕ) (c : Cursor) (t : Task) (ms vs : List ℕ) → Room c b → Narrow ms vs t → Rewriting b c t ms vs 0 0 b c
rewriting_begins b c t ms vs room N =
    record {
      order = omega arith;
      inside = omega arith;
      left = task_pieces t;
      there = N.spelled ∙ sym (task_pieces_lem t);
      sound = task_sound t;
      narrow = task_narrow t N.narrow;
      so_far = kept_none room;
      onward = λ r o w. as_rows (ap (λ (xs : List Row). xs ++ new_rows_of (task_pieces t)) (no_row ms vs 0 0 (omega arith)) ∙ new_pieces t) w;
    }

module _ (b : List ℕ) (c : Cursor) (t : Task) (ms vs : List ℕ) (from i : ℕ) (out : List ℕ) (k : Cursor) (R : Rewriting b c t ms vs from i out k) where
  -- the rows that are left to copy are the last
  pub rewritten : NoEffects ms i (length ms) → (r : Cursor) (o : List ℕ) → Wrote out k (stretch ms vs from (length ms)) r o
      → Wrote b c (task_rows (singled t)) r o
  rewritten h r o w =
      let same : drop i (paired ms vs) ≡ new_rows_of R.left = R.there ∙ sym (nothing_new ms vs i R.left R.there h) in
      R.onward r o (as_rows (all_left ms vs from i R.order ∙ ap (λ (xs : List Row). stretch ms vs from i ++ xs) same) w)

  module _ (l : i < length ms) where
    pub rewriting_on : (get_or ms i 0 ≡ EFFECT → ⊥) → Rewriting b c t ms vs from (i + 1) out k
    rewriting_on m = build (plain_here ms vs i R.left R.there l m)
      where
        build : (x : Row) × (qs : List Piece) × (R.left ≡ plain x ∷ qs) → Rewriting b c t ms vs from (i + 1) out k
        build (x, qs, q) =
            let s : Sound (plain x ∷ qs) = subst Sound q R.sound in
            let n : T (all narrow_piece (plain x ∷ qs)) = subst (λ (ps : List Piece). T (all narrow_piece ps)) q R.narrow in
            let e : drop i (paired ms vs) ≡ x ∷ rows_of qs = R.there ∙ ap rows_of q in
            let more : stretch ms vs from (i + 1) ++ new_rows_of qs ≡ stretch ms vs from i ++ new_rows_of R.left =
            ap (λ (xs : List Row). xs ++ new_rows_of qs) (stretch_on ms vs from i x (rows_of qs) R.order l e)
            ∙ append_assoc (stretch ms vs from i) (x ∷ []) (new_rows_of qs)
            ∙ sym (ap (λ (ps : List Piece). stretch ms vs from i ++ new_rows_of ps) q) in
            record {
              order = omega (arith, R.order);
              inside = omega arith;
              left = qs;
              there = drop_next i (paired ms vs) x (rows_of qs) e;
              sound = s.1;
              narrow = n;
              so_far = R.so_far;
              onward = λ r o w. R.onward r o (as_rows more w);
            }

    module _ (m : get_or ms i 0 ≡ EFFECT) (r : Shape) (f : r ≡ shape_at ms vs i) where
      -- an effect, with the pieces after it
      abbrev First : Effect → List Piece → Type 0
      First e qs = (R.left ≡ effect e ∷ qs) × EffectAt ms vs i r e

      first : (e : Effect) × (qs : List Piece) × First e qs
      first = build (effect_here ms vs i R.left R.there R.sound l m)
        where
          build : (e : Effect) × (qs : List Piece) × (R.left ≡ effect e ∷ qs) → (e : Effect) × (qs : List Piece) × First e qs
          build (e, qs, q) =
              let s : Sound (effect e ∷ qs) = subst Sound q R.sound in
              let n : T (all narrow_piece (effect e ∷ qs)) = subst (λ (ps : List Piece). T (all narrow_piece ps)) q R.narrow in
              let few : choice_count e.condition ≤ 64 = nltb→le 64 (choice_count e.condition) (search tests) in
              (e, qs, (q, effect_found ms vs i e (rows_of qs) (R.there ∙ ap rows_of q) s.0 r f few))

      pub effect_there : (e : Effect) × EffectAt ms vs i r e
      effect_there = (first.0, first.2.1)

      -- the rows before it were copied, and then it was written by its choices
      pub rewriting_past : InOrder ms i r → (o₁ : List ℕ) (k₁ : Cursor) → length o₁ ≡ length out → Wrote out k (stretch ms vs from i) k₁ o₁
          → (o₂ : List ℕ) (k₂ : Cursor) → length o₂ ≡ length o₁ → ((e : Effect) → EffectAt ms vs i r e → Wrote o₁ k₁ (new_effects e) k₂ o₂)
          → Rewriting b c t ms vs r.changes.to r.changes.to o₂ k₂
      rewriting_past ord o₁ k₁ p w₁ o₂ k₂ q w₂ = build first
        where
          build : (e : Effect) × (qs : List Piece) × First e qs → Rewriting b c t ms vs r.changes.to r.changes.to o₂ k₂
          build (e, qs, (g, E)) =
              let s : Sound (effect e ∷ qs) = subst Sound g R.sound in
              let n : T (all narrow_piece (effect e ∷ qs)) = subst (λ (ps : List Piece). T (all narrow_piece ps)) g R.narrow in
              let done : List Row = stretch ms vs from i in
              let more : (done ++ new_effects e) ++ new_rows_of qs ≡ done ++ new_rows_of R.left =
              append_assoc done (new_effects e) (new_rows_of qs) ∙ sym (ap (λ (ps : List Piece). done ++ new_rows_of ps) g) in
              record {
                order = omega arith;
                inside = ord.inside;
                left = qs;
                there = left_found ms vs i e (rows_of qs) (R.there ∙ ap rows_of g) s.0 r f;
                sound = s.1;
                narrow = search tests;
                so_far = kept_on (kept_on R.so_far p w₁) q (w₂ e E);
                onward = λ x o w. R.onward x o (as_rows more (then (then w₁ (w₂ e E))
                    (as_rows (ap (λ (xs : List Row). xs ++ new_rows_of qs) (no_row ms vs r.changes.to r.changes.to (omega arith))) w)));
              }

      -- it has one choice, and is copied with the rows before it
      pub rewriting_along : InOrder ms i r → r.choices ≡ 1 → Rewriting b c t ms vs from r.changes.to out k
      rewriting_along ord one = build first
        where
          build : (e : Effect) × (qs : List Piece) × First e qs → Rewriting b c t ms vs from r.changes.to out k
          build (e, qs, (g, E)) =
              let s : Sound (effect e ∷ qs) = subst Sound g R.sound in
              let n : T (all narrow_piece (effect e ∷ qs)) = subst (λ (ps : List Piece). T (all narrow_piece ps)) g R.narrow in
              let done : List Row = stretch ms vs from i in
              let here : drop i (paired ms vs) ≡ effect_rows e ++ rows_of qs = R.there ∙ ap rows_of g in
              let left : drop r.changes.to (paired ms vs) ≡ rows_of qs = left_found ms vs i e (rows_of qs) here s.0 r f in
              let end : r.changes.to ≡ i + length (effect_rows e) =
              omega (
                arith,
                ap length here,
                ap length left,
                length-append (effect_rows e) (rows_of qs),
                length-drop i (paired ms vs),
                length-drop r.changes.to (paired ms vs),
                length-paired ms vs,
                ord.opened,
                ord.whole,
                ord.inside,
              ) in
              let stays : new_effects e ≡ effect_rows e =
              ap (concat_map effect_rows) (effect_stays e (sym E.choices ∙ one)) ∙ append-nil (effect_rows e) in
              let more : stretch ms vs from r.changes.to ++ new_rows_of qs ≡ done ++ new_rows_of R.left =
              ap (λ (xs : List Row). xs ++ new_rows_of qs)
              (stretch_more ms vs from i r.changes.to (effect_rows e) (rows_of qs) R.order R.inside here end)
              ∙ append_assoc done (effect_rows e) (new_rows_of qs)
              ∙ ap (λ (xs : List Row). done ++ (xs ++ new_rows_of qs)) (sym stays)
              ∙ sym (ap (λ (ps : List Piece). done ++ new_rows_of ps) g) in
              record {
                order = omega (arith, R.order, ord.opened, ord.whole);
                inside = ord.inside;
                left = qs;
                there = left;
                sound = s.1;
                narrow = search tests;
                so_far = R.so_far;
                onward = λ x o w. R.onward x o (as_rows more w);
              }
