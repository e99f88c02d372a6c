-- Rows by rising fact: the rows of a word from bit to bit, and those of a state by its two words.
use mathlib.Core.Path.{◌≡◌, refl, sym, ap, ap₂, ◌∙◌, fun_ext}
use mathlib.Core.Bool.{Bool, true, false, not, cond, ◌&&◌, ◌||◌, and-true}
use mathlib.Core.List.{List, [], ◌++◌, append_assoc}
use Prim.Native.Nat.{ℕ, zero, suc, ◌+◌, ◌^◌, ◌<◌, ◌≤◌}
use native.Mathlib.Nat.{eq-or-lt_of_le, add-zero, zero-add}
use native.Mathlib.Omega.{arith}
use mathlib.Core.Logic.{◌⊎◌, inl, inr}
use lib.Bits.{bit_or}
use lib.Count.{count_trailing_zeros}
use lib.Dec.{eqb}
use borrow.Author.Tests.{eq-eqb, ne_eqb}
use Rattle.lists.specs.Lists.{concat_map, range}
use Rattle.meaning.specs.Meaning.{State as Facts}
use Rattle.task.specs.TaskRows.{Row}
use Rattle.state.specs.Member.{bit, member}
use Rattle.state.specs.declared.State.{State}
use Rattle.state.proofs.Bits.{zero_law, or_law}
use Rattle.state.proofs.Words.{in_low, in_high}
use Rattle.writer.specs.declared.Cursor.{Cursor}
use Rattle.writer.proofs.Putting.{Onward, Kept}
use Rattle.spelling.specs.Runs.{fact_rows, word_rows, rising_rows}
use Rattle.spelling.proofs.LowestBit.{lowest_within, lowest_set, none_lower, without, without-bit}

-- Lists of what is at the numbers of a set

module _ {A : Type 0} where
  -- what h has at the numbers of f among n from k on
  abbrev pub among : (ℕ → List A) → Facts → ℕ → ℕ → List A
  among h f k n = concat_map (λ (i : ℕ). cond (f i) (h i) []) (range k n)

  range_split : (h : ℕ → List A) (k m n : ℕ) → concat_map h (range k (m + n)) ≡ concat_map h (range k m) ++ concat_map h (range (k + m) n)
  range_split h k zero n = rw (add-zero, zero-add)
  range_split h k (suc m) n =
      let e : suc m + n ≡ suc (m + n) = omega arith in
      let d : k + 1 + m ≡ k + suc m = omega arith in
      rw e (ap (λ (xs : List A). h k ++ xs) (range_split h (k + 1) m n ∙ rw d)
      ∙ sym (append_assoc (h k) (concat_map h (range (k + 1) m)) (concat_map h (range (k + suc m) n))))

  -- the numbers from j + k on are those from k on, each with j more
  range_moved : (h : ℕ → List A) (j k n : ℕ) → concat_map h (range (j + k) n) ≡ concat_map (λ (i : ℕ). h (j + i)) (range k n)
  range_moved h j k zero = refl
  range_moved h j k (suc n) =
      let e : j + k + 1 ≡ j + (k + 1) = omega arith in
      ap (λ (xs : List A). h (j + k) ++ xs) (rw e (range_moved h j (k + 1) n))

  -- lists that agree at n numbers from k on
  range_same : (h g : ℕ → List A) (k n : ℕ) → ((i : ℕ) → i < k + n → h i ≡ g i) → concat_map h (range k n) ≡ concat_map g (range k n)
  range_same h g k zero e = refl
  range_same h g k (suc n) e = ap₂ ◌++◌ (e k (omega arith)) (range_same h g (k + 1) n (λ i l. e i (omega arith)))

  -- m numbers, and n numbers after them
  pub range_parts : (h f g : ℕ → List A) (m n : ℕ) → ((i : ℕ) → i < m → h i ≡ f i) → ((i : ℕ) → i < n → h (m + i) ≡ g i)
      → concat_map h (range 0 (m + n)) ≡ concat_map f (range 0 m) ++ concat_map g (range 0 n)
  range_parts h f g m n p q =
      let e : 0 + m ≡ m + 0 = omega arith in
      range_split h 0 m n
      ∙ ap₂ ◌++◌ (range_same h f 0 m (λ i l. p i (omega arith)))
      (ap (λ (k : ℕ). concat_map h (range k n)) e ∙ range_moved h m 0 n ∙ range_same (λ (i : ℕ). h (m + i)) g 0 n (λ i l. q i (omega arith)))

  pub none_among : (h : ℕ → List A) (f : Facts) → ((i : ℕ) → f i ≡ false) → (k n : ℕ) → among h f k n ≡ []
  none_among h f e k zero = refl
  none_among h f e k (suc n) = rw (e k) (none_among h f e (k + 1) n)

  -- the lowest of f comes first
  module _ (h : ℕ → List A) (f : Facts) (t : ℕ) where
    abbrev pub rest : Facts
    rest i = f i && not (eqb i t)

    later : (k n : ℕ) → t < k → among h f k n ≡ among h rest k n
    later k zero l = refl
    later k (suc n) l =
        let e : rest k ≡ f k = rw (ne_eqb k t (λ e. omega arith)) (and-true (f k)) in
        ap₂ (λ (x : Bool) (xs : List A). cond x (h k) [] ++ xs) (sym e) (later (k + 1) n (omega arith))

    pub lowest_first : f t ≡ true → ((i : ℕ) → i < t → f i ≡ false) → (k n : ℕ) → k ≤ t → t < k + n → among h f k n ≡ h t ++ among h rest k n
    lowest_first s low k zero a b = absurd (omega arith)
    lowest_first s low k (suc n) a b = go (eq-or-lt_of_le a) (lowest_first s low (k + 1) n)
      where
        go : (k ≡ t) ⊎ (k < t) → (k + 1 ≤ t → t < k + 1 + n → among h f (k + 1) n ≡ h t ++ among h rest (k + 1) n)
            → among h f k (suc n) ≡ h t ++ among h rest k (suc n)
        go (inl e) more =
            rw (e, s, eq-eqb t t refl) (ap (λ (xs : List A). h t ++ xs) (later (t + 1) n (omega arith)))
        go (inr l) more = rw (low k l) (more (omega arith) (omega arith))

-- The rows of a word

module _ (a b base : ℕ) (first second : ℕ) where
  abbrev pub rows_at : ℕ → List Row
  rows_at n = fact_rows a b (bit first n) (bit second n) (base + n)

  -- those at the bits of a word that are left
  unfoldable pub left : ℕ → List Row
  left w = among rows_at (bit w) 0 64

  either : (x y : Bool) (n : ℕ) → fact_rows a b x y (base + n) ≡ cond (x || y) (fact_rows a b x y (base + n)) []
  either true y n = refl
  either false true n = refl
  either false false n = refl

  each_left : rows_at ≡ (λ (n : ℕ). cond (bit (bit_or first second) n) (rows_at n) [])
  each_left =
      fun_ext (λ n. either (bit first n) (bit second n) n ∙ ap (λ (x : Bool). cond x (rows_at n) []) (sym (or_law first second n)))

  pub all_left : word_rows a b base (bit first) (bit second) ≡ left (bit_or first second)
  unfolding word_rows left
  all_left = ap (λ (h : ℕ → List Row). concat_map h (range 0 64)) each_left

  pub none_left : left 0 ≡ []
  unfolding left
  none_left = none_among rows_at (bit 0) zero_law 0 64

  module _ (w : ℕ) (h : w < 2 ^ 64) (p : 0 < w) where
    abbrev pub lowest : ℕ
    lowest = count_trailing_zeros 64 w

    pub within : lowest < 64
    within = lowest_within 64 w p h

    pub lowest_left : left w ≡ rows_at lowest ++ left (without w lowest h within)
    unfolding left
    lowest_left =
        lowest_first rows_at (bit w) lowest (lowest_set 64 w p h) (λ i k. none_lower 64 w i k) 0 64 (omega arith) (omega (arith, within))
        ∙ ap (λ (f : Facts). rows_at lowest ++ among rows_at f 0 64) (fun_ext (λ j. sym (without-bit w lowest h within j)))

-- The rows of a state, by its words
module _ (a b : ℕ) (s t : State) where
  abbrev at : ℕ → List Row
  at n = fact_rows a b (member s n) (member t n) n

  low_word : (n : ℕ) → n < 64 → at n ≡ fact_rows a b (bit s.low n) (bit t.low n) (0 + n)
  low_word n l = let e : n ≡ 0 + n = omega arith in λ i. fact_rows a b (sym (in_low s n l) i) (sym (in_low t n l) i) (e i)

  high_word : (n : ℕ) → n < 64 → at (64 + n) ≡ fact_rows a b (bit s.high n) (bit t.high n) (64 + n)
  high_word n l = λ i. fact_rows a b (sym (in_high s n l) i) (sym (in_high t n l) i) (64 + n)

  pub by_words : rising_rows a b (record { first = member s; second = member t })
      ≡ word_rows a b 0 (bit s.low) (bit t.low) ++ word_rows a b 64 (bit s.high) (bit t.high)
  unfolding word_rows rising_rows
  by_words = range_parts at (λ (n : ℕ). fact_rows a b (bit s.low n) (bit t.low n) (0 + n)) (λ (n : ℕ). fact_rows a b (bit s.high n) (bit t.high n) (64 + n)) 64 64 low_word high_word

-- What holds while rows are written: those that are left, ys, make up xs
pub record Writing (b : List ℕ) (c : Cursor) (xs : List Row) (out : List ℕ) (k : Cursor) (ys : List Row) : Type 0 where
  pub so_far : Kept b out k
  pub onward : Onward b c xs out k ys

-- and while those at the bits of a word are written
pub record WritingWord (b : List ℕ) (c : Cursor) (rows : ℕ → List Row) (all : ℕ) (out : List ℕ) (k : Cursor) (rest : ℕ) : Type 0 where
  pub writing : Writing b c (rows all) out k (rows rest)
  pub word : rest < 2 ^ 64
