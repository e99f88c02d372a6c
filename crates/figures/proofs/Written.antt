-- A file of some entries over step bytes is read back.
use mathlib.Core.Path.{◌≡◌, refl, sym, ap, ap₂, ◌∙◌}
use mathlib.Core.Bool.{Bool, ◌&&◌}
use mathlib.Core.List.{List, [], ◌∷◌, ◌++◌, append_assoc}
use Prim.Native.Nat.{ℕ, zero, suc, ◌+◌, ◌*◌, ◌≤◌, ◌<◌}
use native.Mathlib.Nat.{zero-add}
use native.Mathlib.Omega.{arith}
use lib.Dec.{T, ltb, ltb→lt}
use lib.ListN.{length, get_or, drop, length-append}
use lib.Seq.{get_or-append-add, drop_at, ext_get_or}
use Rattle.lists.specs.Lists.{all, concat_map, range}
use Rattle.task.proofs.Bytes.{word16_back}
use Rattle.task.specs.File.{word16, bytes16}
use Rattle.lists.proofs.Tests.{tests, all_implies}
use Rattle.lists.proofs.Entries.{get_d_map}
use Rattle.figures.specs.Plans.{Entry, count, entry_at, entries, step_bytes, starts, lengths, file_of}
use Rattle.lists.proofs.Ranges.{length-range, get_d_range}
use Rattle.figures.proofs.Numbered.{length-entries}

-- a number of 16 bits after xs
word_after : (xs ys : List ℕ) (i : ℕ) → word16 (xs ++ ys) (length xs + i) ≡ word16 ys i
word_after xs ys i =
    let next : length xs + i + 1 ≡ length xs + (i + 1) = omega arith in
    ap₂ (λ (a b : ℕ). a + 256 * b) (get_or-append-add xs ys i 0) (ap (λ (j : ℕ). get_or (xs ++ ys) j 0) next ∙ get_or-append-add xs ys (i + 1) 0)

module _ (g : Entry → ℕ) where
  abbrev words : List Entry → List ℕ
  words = concat_map (λ (e : Entry). bytes16 (g e))

  length_words : (es : List Entry) → length (words es) ≡ 2 * length es
  length_words [] = refl
  length_words (e ∷ es) = omega (arith, length_words es)

  -- number i of an array
  word_of : (es : List Entry) (rest : List ℕ) (d : Entry) → T (all (λ (e : Entry). ltb (g e) 65536) es) → (i : ℕ) → i < length es
      → word16 (words es ++ rest) (2 * i) ≡ g (get_or es i d)
  word_of [] rest d t i h = absurd (omega arith)
  word_of (e ∷ es) rest d t zero h =
      word16_back (g e) (ltb→lt (g e) 65536 (search tests))
  word_of (e ∷ es) rest d t (suc i) h =
      let at : 2 * suc i ≡ 2 + 2 * i = omega arith in
      ap (word16 (bytes16 (g e) ++ (words es ++ rest))) at
      ∙ word_after (bytes16 (g e)) (words es ++ rest) (2 * i)
      ∙ word_of es rest d (search tests) i (omega arith)

abbrev no_entry : Entry
no_entry = record { start = 0; steps = 0 }

-- an entry of 16 bits each
abbrev pub is_entry : Entry → Bool
is_entry e = ltb e.start 65536 && ltb e.steps 65536

module _ (es : List Entry) (bytes : List ℕ) (few : length es ≤ 64) where
  abbrev f : List ℕ
  f = file_of es bytes

  pub count_back : count f ≡ length es
  count_back = word16_back (length es) (omega arith)

  pub steps_back : step_bytes f ≡ bytes
  steps_back =
      let n : ℕ = length es in
      let front : List ℕ = bytes16 n ++ (starts es ++ lengths es) in
      let same : f ≡ front ++ bytes = ap (λ (l : List ℕ). bytes16 n ++ l) (sym (append_assoc (starts es) (lengths es) bytes)) in
      let size : length front ≡ 2 + 4 * n =
      omega (arith, length-append (starts es) (lengths es), length_words (λ (e : Entry). e.start) es, length_words (λ (e : Entry). e.steps) es) in
      ap (λ (m : ℕ). drop (2 + 4 * m) f) count_back ∙ ap (drop (2 + 4 * n)) same ∙ drop_at front bytes (2 + 4 * n) size

  module _ (small : T (all is_entry es)) where
    entry_back : (i : ℕ) → i < length es → entry_at f i ≡ get_or es i no_entry
    entry_back i h =
        let n : ℕ = length es in
        let low : T (all (λ (e : Entry). ltb e.start 65536) es) =
        all_implies is_entry (λ (e : Entry). ltb e.start 65536) (λ e t. search tests) es small in
        let high : T (all (λ (e : Entry). ltb e.steps 65536) es) =
        all_implies is_entry (λ (e : Entry). ltb e.steps 65536) (λ e t. search tests) es small in
        let first : word16 f (2 + 2 * i) ≡ (get_or es i no_entry).start =
        word_after (bytes16 n) (starts es ++ (lengths es ++ bytes)) (2 * i) ∙ word_of (λ (e : Entry). e.start) es (lengths es ++ bytes) no_entry low i h in
        let at : 2 + 2 * count f + 2 * i ≡ 2 + (length (starts es) + 2 * i) = omega (arith, count_back, length_words (λ (e : Entry). e.start) es) in
        let second : word16 f (2 + 2 * count f + 2 * i) ≡ (get_or es i no_entry).steps =
        ap (word16 f) at ∙ word_after (bytes16 n) (starts es ++ (lengths es ++ bytes)) (length (starts es) + 2 * i)
        ∙ word_after (starts es) (lengths es ++ bytes) (2 * i)
        ∙ word_of (λ (e : Entry). e.steps) es bytes no_entry high i h in
        λ z. record { start = first z; steps = second z }

    pub entries_back : entries f ≡ es
    entries_back = ext_get_or no_entry (entries f) es (length-entries f ∙ count_back) (λ i h. each i (omega (arith, length-entries f, count_back)))
      where
        each : (i : ℕ) → i < length es → get_or (entries f) i no_entry ≡ get_or es i no_entry
        each i h =
            let k : i < count f = omega (arith, count_back) in
            get_d_map (entry_at f) (range 0 (count f)) i 0 no_entry (omega (arith, length-range 0 (count f)))
            ∙ ap (entry_at f) (get_d_range 0 (count f) i k ∙ zero-add i)
            ∙ entry_back i h
