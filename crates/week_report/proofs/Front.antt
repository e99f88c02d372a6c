-- A file of plans that is longer than the program's buffer gets the answer of the whole file: no start and length of 16 bits reach
-- beyond it.
use mathlib.Core.Path.{◌≡◌, refl, sym, ap, ap₂, ◌∙◌}
use mathlib.Core.Bool.{Bool, true, false, cond, ◌&&◌, true≢false}
use mathlib.Core.List.{List, [], ◌∷◌, map}
use Prim.Native.Nat.{ℕ, zero, suc, ◌+◌, ◌*◌, ◌≤◌, ◌<◌}
use native.Mathlib.Nat.{zero-add}
use native.Mathlib.Omega.{arith}
use lib.Dec.{T, leb, ltb, ltb→lt}
use lib.ListN.{length, get_or, take, drop, length-take, length-drop}
use lib.Seq.{get_or-take, take_all, drop-drop}
use borrow.Author.Tests.{le-leb, leb-true, leb-false}
use Rattle.lists.specs.Lists.{all, range}
use Rattle.lists.proofs.Tests.{tests}
use Rattle.task.specs.File.{word16}
use Rattle.task.specs.Check
use Rattle.task.specs.Check.{check}
use Rattle.figures.specs.Plans.{Entry, count, entry_at, entries, step_bytes, plan_of, plans, headed, stands, readable}
use Rattle.figures.specs.Week.{Answer, refused, of_plans, week_by, week_of}

-- two bytes, 64 starts and lengths, and what the greatest of these reach
abbrev pub FRONT : ℕ
FRONT = 131328

abbrev pub Bytes : List ℕ → Type 0
Bytes l = T (all (λ (x : ℕ). ltb x 256) l)

byte_small : (l : List ℕ) → Bytes l → (i : ℕ) → get_or l i 0 < 256
byte_small [] t i = omega arith
byte_small (x ∷ xs) t zero = ltb→lt x 256 (search tests)
byte_small (x ∷ xs) t (suc i) = byte_small xs (search tests) i

-- a part that ends within the first n
take_within : (l m n : ℕ) (xs : List ℕ) → m + l ≤ n → take l (drop m (take n xs)) ≡ take l (drop m xs)
take_within zero m n xs h = refl
take_within (suc l) m zero xs h = absurd (omega arith)
take_within (suc l) zero (suc n) [] h = refl
take_within (suc l) zero (suc n) (x ∷ xs) h = ap (λ (r : List ℕ). x ∷ r) (take_within l zero n xs (omega arith))
take_within (suc l) (suc m) (suc n) [] h = refl
take_within (suc l) (suc m) (suc n) (x ∷ xs) h = take_within (suc l) m n xs (omega arith)

map_same : {X : Type 0} (u v : ℕ → X) (k n : ℕ) → ((i : ℕ) → i < k + n → u i ≡ v i) → map u (range k n) ≡ map v (range k n)
map_same u v k zero e = refl
map_same {X} u v k (suc n) e = ap₂ (λ (x : X) (l : List X). x ∷ l) (e k (omega arith)) (map_same u v (k + 1) n (λ i h. e i (omega arith)))

map_twice : {X Y : Type 0} (p : X → Y) (u : ℕ → X) (l : List ℕ) → map p (map u l) ≡ map (λ (i : ℕ). p (u i)) l
map_twice p u [] = refl
map_twice {X} {Y} p u (i ∷ l) = ap (λ (r : List Y). p (u i) ∷ r) (map_twice p u l)

all_mapped : {X : Type 0} (p : X → Bool) (xs : List X) → all p xs ≡ all (λ (b : Bool). b) (map p xs)
all_mapped p [] = refl
all_mapped p (x ∷ xs) = ap (λ (b : Bool). p x && b) (all_mapped p xs)

module _ (f : List ℕ) (bytes : Bytes f) (long : FRONT < length f) where
  abbrev g : List ℕ
  g = take FRONT f

  size : length g ≡ FRONT
  size = omega (arith, length-take FRONT f)

  word_same : (i : ℕ) → i + 1 < FRONT → word16 g i ≡ word16 f i
  word_same i h = ap₂ (λ (a b : ℕ). a + 256 * b) (get_or-take FRONT f i 0 (omega arith)) (get_or-take FRONT f (i + 1) 0 h)

  word_small : (i : ℕ) → word16 f i < 65536
  word_small i = omega (arith, byte_small f bytes i, byte_small f bytes (i + 1))

  count_same : count g ≡ count f
  count_same = word_same 0 (omega arith)

  headed_same : headed g ≡ headed f
  headed_same =
      (λ i. leb 2 (size i) && leb 1 (count_same i) && leb (count_same i) 64 && leb (2 + 4 * count_same i) (size i))
      ∙ go (leb (count f) 64) refl ∙ ap (λ (b : Bool). b && leb 1 (count f) && leb (count f) 64 && leb (2 + 4 * count f) (length f)) (sym (le-leb 2 (length f) (omega arith)))
    where
      short : (x : Bool) → (leb 1 (count f) && false && x) ≡ false
      short x = by (leb 1 (count f))
        where
          by : (y : Bool) → (y && false && x) ≡ false
          by true = refl
          by false = refl

      go : (x : Bool) → leb (count f) 64 ≡ x
          → (leb 1 (count f) && leb (count f) 64 && leb (2 + 4 * count f) FRONT) ≡ (leb 1 (count f) && leb (count f) 64 && leb (2 + 4 * count f) (length f))
      go true e =
          let few : count f ≤ 64 = leb-true (count f) 64 e in
          ap (λ (b : Bool). leb 1 (count f) && leb (count f) 64 && b)
          (le-leb (2 + 4 * count f) FRONT (omega arith) ∙ sym (le-leb (2 + 4 * count f) (length f) (omega arith)))
      go false e = rw e (short (leb (2 + 4 * count f) FRONT) ∙ sym (short (leb (2 + 4 * count f) (length f))))

  module _ (few : count f ≤ 64) where
    entry_same : (i : ℕ) → i < count f → entry_at g i ≡ entry_at f i
    entry_same i h =
        let second : word16 g (2 + 2 * count g + 2 * i) ≡ word16 f (2 + 2 * count f + 2 * i) =
        ap (λ (n : ℕ). word16 g (2 + 2 * n + 2 * i)) count_same ∙ word_same (2 + 2 * count f + 2 * i) (omega arith) in
        let first : word16 g (2 + 2 * i) ≡ word16 f (2 + 2 * i) = word_same (2 + 2 * i) (omega arith) in
        λ z. record { start = first z; steps = second z }

    bytes_same : step_bytes g ≡ drop (2 + 4 * count f) g
    bytes_same = ap (λ (n : ℕ). drop (2 + 4 * n) g) count_same

    stands_same : (i : ℕ) → i < count f → stands (step_bytes g) (entry_at g i) ≡ stands (step_bytes f) (entry_at f i)
    stands_same i h =
        let s : (entry_at f i).start < 65536 = word_small (2 + 2 * i) in
        let l : (entry_at f i).steps < 65536 = word_small (2 + 2 * count f + 2 * i) in
        (λ z. stands (bytes_same z) (entry_same i h z))
        ∙ le-leb ((entry_at f i).start + (entry_at f i).steps) (length (drop (2 + 4 * count f) g)) (omega (arith, length-drop (2 + 4 * count f) g, size))
        ∙ sym (le-leb ((entry_at f i).start + (entry_at f i).steps) (length (step_bytes f)) (omega (arith, length-drop (2 + 4 * count f) f)))

    plan_same : (i : ℕ) → i < count f → plan_of (step_bytes g) (entry_at g i) ≡ plan_of (step_bytes f) (entry_at f i)
    plan_same i h =
        let s : (entry_at f i).start < 65536 = word_small (2 + 2 * i) in
        let l : (entry_at f i).steps < 65536 = word_small (2 + 2 * count f + 2 * i) in
        (λ z. plan_of (bytes_same z) (entry_same i h z))
        ∙ ap (take (entry_at f i).steps) (drop-drop (entry_at f i).start (2 + 4 * count f) g)
        ∙ take_within (entry_at f i).steps (2 + 4 * count f + (entry_at f i).start) FRONT f (omega arith)
        ∙ ap (take (entry_at f i).steps) (sym (drop-drop (entry_at f i).start (2 + 4 * count f) f))

    -- over all entries
    over : {X : Type 0} (p q : Entry → X) → ((i : ℕ) → i < count f → p (entry_at g i) ≡ q (entry_at f i)) → map p (entries g) ≡ map q (entries f)
    over p q e =
        map_twice p (entry_at g) (range 0 (count g))
        ∙ ap (λ (n : ℕ). map (λ (i : ℕ). p (entry_at g i)) (range 0 n)) count_same
        ∙ map_same (λ (i : ℕ). p (entry_at g i)) (λ (i : ℕ). q (entry_at f i)) 0 (count f) (λ i h. e i (omega (arith, zero-add (count f))))
        ∙ sym (map_twice q (entry_at f) (range 0 (count f)))

    all_same : all (stands (step_bytes g)) (entries g) ≡ all (stands (step_bytes f)) (entries f)
    all_same =
        all_mapped (stands (step_bytes g)) (entries g)
        ∙ ap (all (λ (b : Bool). b)) (over (stands (step_bytes g)) (stands (step_bytes f)) stands_same)
        ∙ sym (all_mapped (stands (step_bytes f)) (entries f))

    plans_same : plans g ≡ plans f
    plans_same = over (plan_of (step_bytes g)) (plan_of (step_bytes f)) plan_same

  -- the file's head decides whether the plans are looked at
  fewer : headed f ≡ true → count f ≤ 64
  fewer e = go (leb (count f) 64) refl
    where
      never : (a b : Bool) → (a && false && b) ≡ true → ⊥
      never true b e = true≢false (sym e)
      never false b e = true≢false (sym e)

      go : (x : Bool) → leb (count f) 64 ≡ x → count f ≤ 64
      go true q = leb-true (count f) 64 q
      go false q = absurd (never (leb 2 (length f) && leb 1 (count f)) (leb (2 + 4 * count f) (length f)) (rw q at e))

  read_same : (x : Answer) (on : List (List ℕ) → Answer) → cond (readable g) (on (plans g)) x ≡ cond (readable f) (on (plans f)) x
  unfolding readable
  read_same x on = go (headed f) refl
    where
      go : (h : Bool) → headed f ≡ h
          → cond (headed g && all (stands (step_bytes g)) (entries g)) (on (plans g)) x ≡ cond (headed f && all (stands (step_bytes f)) (entries f)) (on (plans f)) x
      go true e = λ i. cond (headed_same i && all_same (fewer e) i) (on (plans_same (fewer e) i)) x
      go false e = rw (headed_same, e)

  long_front : (b : List ℕ) → week_of b g ≡ week_of b f
  unfolding week_of
  long_front b = go (check b)
    where
      go : (a : Check.Answer) → week_by b g a ≡ week_by b f a
      go (Check.refused n i) = refl
      go (Check.accepted z) = read_same (refused 18 0) (of_plans b z)

pub week_front : (b f : List ℕ) → Bytes f → week_of b (take FRONT f) ≡ week_of b f
week_front b f bytes = go (leb (length f) FRONT) refl
  where
    go : (x : Bool) → leb (length f) FRONT ≡ x → week_of b (take FRONT f) ≡ week_of b f
    go true e = ap (week_of b) (take_all FRONT f (leb-true (length f) FRONT e))
    go false e = long_front f bytes (leb-false (length f) FRONT e) b
