-- A list of facts, written row by row.
use mathlib.Core.Path.{◌≡◌, refl, sym, ap, ◌∙◌, subst}
use mathlib.Core.Bool.{Bool, true, false, ◌&&◌}
use mathlib.Core.List.{List, [], ◌∷◌, ◌++◌, map, append-nil, append_assoc}
use Prim.Native.Nat.{ℕ, ◌+◌, ◌*◌, ◌-◌, ◌≤◌, ◌<◌}
use native.Mathlib.Omega.{arith}
use lib.Dec.{T, leb, ltb}
use lib.ListN.{length, drop, get_or}
use borrow.Author.Tests.{le-leb, le-ltb, leb-true, ltb-true, ltb-false}
use Rattle.lists.specs.Lists.{all}
use Rattle.task.specs.TaskRows.{Row, row}
use Rattle.task.specs.File.{paired}
use Rattle.task.specs.Rows.{value_at, between, run, run_at, Stops}
use Rattle.lists.proofs.Tests.{not_both, both_true}
use Rattle.task.proofs.Reading.{row_at, row_end, passes, fold, run-stop, run_through, goes_on, stops_at, ends_at}
use Rattle.text.specs.Ascii.{ascii}
use Rattle.text.specs.Text.{decimal}
use Rattle.text.specs.Area.{Wrote}
use Rattle.text.proofs.Writing.{then}
use Rattle.pddl_parts.specs.Pddl.{spaced, not_text}
use Rattle.pddl_parts.specs.Rows.{row_text, mark_at, Listed, listed, ended_at, list_at}

-- A fact that does not hold, written at once
pub not_wrote : (n : ℕ) {b : List ℕ} {at r : ℕ} {out : List ℕ} → Wrote b at (ascii "(not (f" ++ (decimal n ++ ascii "))")) r out → Wrote b at (not_text n) r out
not_wrote n {b} {at} {r} {out} w =
    subst (λ (t : List ℕ). Wrote b at (ascii "(not (f" ++ t) r out) (sym (append_assoc (decimal n) (ascii ")") (ascii ")"))) w

-- Whether a row is there, with a mark between two

module _ (least most : ℕ) (ms : List ℕ) (i : ℕ) where
  pub there : mark_at least most ms i ≡ true → (i < length ms) × (between least most (get_or ms i 0) ≡ true)
  there e = let (p, q) = both_true (ltb i (length ms)) (between least most (get_or ms i 0)) e in (ltb-true i (length ms) p, q)

  pub not_there : {P : Type 0} → mark_at least most ms i ≡ false → (length ms ≤ i → P) → (i < length ms → between least most (get_or ms i 0) ≡ false → P) → P
  not_there {P} e past other = go (ltb i (length ms)) refl e
    where
      go : (b : Bool) → ltb i (length ms) ≡ b → (b && between least most (get_or ms i 0)) ≡ false → P
      go true h e = other (ltb-true i (length ms) h) e
      go false h e = past (ltb-false i (length ms) h)

  pub none_past : length ms ≤ i → mark_at least most ms i ≡ false
  none_past h = rw (le-ltb i (length ms) h)

-- what stops a range stops a narrower one
outside : (a b c d m : ℕ) → a ≤ c → d ≤ b → between a b m ≡ false → between c d m ≡ false
outside a b c d m low high e = go (leb c m) refl (leb m d) refl
  where
    go : (p : Bool) → leb c m ≡ p → (q : Bool) → leb m d ≡ q → (p && q) ≡ false
    go true x true y = absurd (not_both (rw (le-leb a m (omega (arith, low, leb-true c m x)), le-leb m b (omega (arith, high, leb-true m d y)))) e)
    go true x false y = refl
    go false x q y = refl

pub narrowed : (a b c d : ℕ) → a ≤ c → d ≤ b → (xs : List Row) → Stops (between a b) xs → Stops (between c d) xs
narrowed a b c d low high [] s = tt
narrowed a b c d low high (x ∷ xs) s = outside a b c d x.mark low high s

-- whether the first of rows has a mark that passes
abbrev pub opens_with : (ℕ → Bool) → List Row → Bool
opens_with p [] = false
opens_with p (x ∷ xs) = p x.mark

pub stops_opens : (p : ℕ → Bool) (xs : List Row) → Stops p xs → opens_with p xs ≡ false
stops_opens p [] s = refl
stops_opens p (x ∷ xs) s = s

pub first_mark_lem : (least most : ℕ) (ms vs : List ℕ) (i : ℕ) → mark_at least most ms i ≡ opens_with (between least most) (drop i (paired ms vs))
first_mark_lem least most ms vs i = go (ltb i (length ms)) refl
  where
    go : (b : Bool) → ltb i (length ms) ≡ b → (b && between least most (get_or ms i 0)) ≡ opens_with (between least most) (drop i (paired ms vs))
    go true h = rw (row_at ms vs i (ltb-true i (length ms) h))
    go false h = rw (row_end ms vs i (ltb-false i (length ms) h))

-- Rows that are all listed

-- rows of which each has the text that g gives
pub each_text : {A : Type 0} (f : A → Row) (g : A → List ℕ) → ((a : A) → row_text (f a) ≡ g a) → (l : List A) → spaced row_text (map f l) ≡ spaced g l
each_text f g h [] = refl
each_text f g h (a ∷ l) = λ i. (ascii " " ++ h a i) ++ each_text f g h l i

fold-listed : (w : List ℕ) (l : List Row) → fold listed w l ≡ w ++ spaced row_text l
fold-listed w [] = sym (append-nil w)
fold-listed w (x ∷ l) = fold-listed (listed w x) l ∙ append_assoc w (ascii " " ++ row_text x) (spaced row_text l)

pub lists : (least most : ℕ) (ms vs : List ℕ) (from : ℕ) (l xs : List Row) → drop from (paired ms vs) ≡ l ++ xs
    → T (all (passes (between least most)) l) → Stops (between least most) xs → list_at least most ms vs from ≡ ended_at (spaced row_text l) (from + length l)
unfolding run_at
lists least most ms vs from l xs e t s =
    ap (run listed (between least most) ended_at [] from) e
    ∙ run_through listed (between least most) ended_at [] from l xs t
    ∙ run-stop listed (between least most) ended_at (fold listed [] l) (from + length l) xs s
    ∙ ap (λ (w : List ℕ). ended_at w (from + length l)) (fold-listed [] l)

-- The loop over the rows

-- what holds before row i is read
pub record Listing (b : List ℕ) (at : ℕ) (ms vs : List ℕ) (from least most : ℕ) (out : List ℕ) (k i : ℕ) : Type 0 where
  pub begun : from ≤ i
  pub rows_left : i ≤ length ms
  pub little : k ≤ at + 30 * (i - from)
  pub text : List ℕ
  pub wrote : Wrote b at text k out
  pub same : run_at listed (between least most) ended_at text ms vs i ≡ list_at least most ms vs from

module _ {b : List ℕ} {at : ℕ} {ms vs : List ℕ} {from least most : ℕ} {out : List ℕ} {k i : ℕ} (L : Listing b at ms vs from least most out k i) where
  ended : run_at listed (between least most) ended_at L.text ms vs i ≡ ended_at L.text i
      → Wrote b at (list_at least most ms vs from).text k out × (i ≡ (list_at least most ms vs from).next)
  ended e =
      let r : ended_at L.text i ≡ list_at least most ms vs from = sym e ∙ L.same in
      (subst (λ (l : Listed). Wrote b at l.text k out) r L.wrote, ap (λ (l : Listed). l.next) r)

  pub listed_all : mark_at least most ms i ≡ false → Wrote b at (list_at least most ms vs from).text k out × (i ≡ (list_at least most ms vs from).next)
  listed_all e =
      ended (not_there least most ms i e (ends_at listed (between least most) ended_at L.text ms vs i) (stops_at listed (between least most) ended_at L.text ms vs i))

  pub one_more : mark_at least most ms i ≡ true → {mid : List ℕ} {j : ℕ} → Wrote out k (ascii " ") j mid
      → {v : ℕ} → v ≡ value_at vs i → {last : List ℕ} {r : ℕ} → Wrote mid j (row_text (row (get_or ms i 0) v)) r last → r ≤ j + 29
      → Listing b at ms vs from least most last r (i + 1)
  one_more e {mid} {j} space {v} value {last} {r} fact short = record {
    begun = omega (arith, L.begun);
    rows_left = omega (arith, (there least most ms i e).0);
    little = omega (arith, L.little, L.begun, space.after);
    text = L.text ++ (ascii " " ++ row_text (row (get_or ms i 0) v));
    wrote = then L.wrote (then space fact);
    same =
        ap (λ (u : ℕ). run_at listed (between least most) ended_at (L.text ++ (ascii " " ++ row_text (row (get_or ms i 0) u))) ms vs (i + 1)) value
        ∙ sym (goes_on listed (between least most) ended_at L.text ms vs i (there least most ms i e).0 (there least most ms i e).1)
        ∙ L.same;
  }
