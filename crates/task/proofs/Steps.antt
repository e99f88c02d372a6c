-- The kind of a preference, read from the row that opens it and the row after that.
use mathlib.Core.Path.{◌≡◌, refl, ap, ◌∙◌}
use mathlib.Core.Bool.{Bool, cond}
use mathlib.Core.List.{List, ◌∷◌, ◌++◌, append_assoc}
use Prim.Native.Nat.{ℕ, ◌+◌, ◌%◌, ◌≤◌, ◌<◌}
use native.Mathlib.Omega.{arith}
use lib.Dec.{T, leb, leb→le}
use lib.ListN.{length, drop, get_or, length-drop}
use borrow.Author.Tests.{lt-leb, ne_eqb}
use Rattle.task.specs.Marks.{ALWAYS, SOMETIME, AT_END, AT_MOST_ONCE, SOMETIME_BEFORE, SOMETIME_AFTER, WITHIN, STEPS}
use Rattle.meaning.specs.Task.{Kind, always, sometime, at_end, at_most_once, sometime_before, sometime_after, within, always_within, Preference}
use Rattle.task.specs.TaskRows.{Row, row}
use Rattle.task.specs.TaskRows.{kind_mark, opening_mark, steps_rows, preference_rows}
use Rattle.task.specs.File.{paired, opens_hard, soft_mark, kind_of}
use Rattle.task.specs.Spelling.{kind_spellable}
use Rattle.task.specs.Rows.{value_at, steps_at}
use Rattle.task.proofs.Bytes.{length-paired}
use Rattle.task.proofs.Passing.{conditions_of}
use Rattle.task.proofs.Hard.{soft_back, hard_back}
use Rattle.task.proofs.Reading.{mark_at_lem, value_at_lem}
use Rattle.task.proofs.Positions.{drop_next, drop_after}
use Rattle.task.specs.Limits.{MAX_DEADLINE}

-- a mark of no other kind
pub last_kind : (m t : ℕ) → (m ≡ ALWAYS → ⊥) → (m ≡ SOMETIME → ⊥) → (m ≡ AT_END → ⊥) → (m ≡ AT_MOST_ONCE → ⊥) → (m ≡ SOMETIME_BEFORE → ⊥)
    → (m ≡ SOMETIME_AFTER → ⊥) → (m ≡ WITHIN → ⊥) → kind_of m t ≡ always_within t
last_kind m t a s e o b f w =
    rw (
      ne_eqb m ALWAYS a,
      ne_eqb m SOMETIME s,
      ne_eqb m AT_END e,
      ne_eqb m AT_MOST_ONCE o,
      ne_eqb m SOMETIME_BEFORE b,
      ne_eqb m SOMETIME_AFTER f,
      ne_eqb m WITHIN w,
    )

module _ (ms vs : List ℕ) (i : ℕ) where
  inside : (j : ℕ) (x : Row) (xs : List Row) → drop j (paired ms vs) ≡ x ∷ xs → j < length ms
  inside j x xs e = omega (arith, ap length e, length-drop j (paired ms vs), length-paired ms vs)

  steps_read : (t : ℕ) (xs : List Row) → T (leb t MAX_DEADLINE) → drop (i + 1) (paired ms vs) ≡ row STEPS t ∷ xs → steps_at ms vs i ≡ t
  steps_read t xs ok e =
      let h : i + 1 < length ms = inside (i + 1) (row STEPS t) xs e in
      let few : t ≤ 15 = leb→le t MAX_DEADLINE ok in
      ap (λ (b : Bool). cond b 0 (value_at vs (i + 1) % 16)) (lt-leb (length ms) (i + 1) h)
      ∙ ap (λ (n : ℕ). n % 16) (value_at_lem ms vs (i + 1) h e) ∙ omega arith

  kind_read : (k : Kind) (xs : List Row) → T (kind_spellable k) → drop (i + 1) (paired ms vs) ≡ steps_rows k ++ xs → kind_of (kind_mark k) (steps_at ms vs i) ≡ k
  kind_read always xs ok e = refl
  kind_read sometime xs ok e = refl
  kind_read at_end xs ok e = refl
  kind_read at_most_once xs ok e = refl
  kind_read sometime_before xs ok e = refl
  kind_read sometime_after xs ok e = refl
  kind_read (within t) xs ok e = ap within (steps_read t xs ok e)
  kind_read (always_within t) xs ok e = ap always_within (steps_read t xs ok e)

  module _ (q : Preference) (more : List Row) (e : drop i (paired ms vs) ≡ preference_rows q ++ more) where
    pub after_opening : drop (i + 1) (paired ms vs) ≡ steps_rows q.kind ++ (conditions_of q ++ more)
    after_opening =
        drop_next i (paired ms vs) (row (opening_mark q.hard q.kind) q.weight) ((steps_rows q.kind ++ conditions_of q) ++ more) e
        ∙ append_assoc (steps_rows q.kind) (conditions_of q) more

    pub after_steps : drop (i + 1 + length (steps_rows q.kind)) (paired ms vs) ≡ conditions_of q ++ more
    after_steps = drop_after (i + 1) (paired ms vs) (steps_rows q.kind) (conditions_of q ++ more) after_opening

    pub soft_at : i < length ms → soft_mark (get_or ms i 0) ≡ kind_mark q.kind
    soft_at h = ap soft_mark (mark_at_lem ms vs i h e) ∙ soft_back q.hard q.kind

    pub hard_at : i < length ms → opens_hard (get_or ms i 0) ≡ q.hard
    hard_at h = ap opens_hard (mark_at_lem ms vs i h e) ∙ hard_back q.hard q.kind

    pub kind_at : i < length ms → T (kind_spellable q.kind) → kind_of (soft_mark (get_or ms i 0)) (steps_at ms vs i) ≡ q.kind
    kind_at h ok =
        ap (λ (m : ℕ). kind_of m (steps_at ms vs i)) (soft_at h)
        ∙ kind_read q.kind (conditions_of q ++ more) ok after_opening
