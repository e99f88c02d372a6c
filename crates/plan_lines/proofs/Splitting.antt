-- A text and its lines: no byte is lost, and no line holds a newline.
use mathlib.Core.Path.{◌≡◌, refl, sym, ap, ◌∙◌}
use mathlib.Core.Bool.{Bool, true, false, cond, ◌&&◌}
use mathlib.Core.List.{List, [], ◌∷◌, ◌++◌}
use Prim.Native.Nat.{ℕ, ◌≤◌}
use lib.Dec.{T, eqb}
use lib.ListN.{length}
use borrow.Author.Tests.{eqb-true, le-leb}
use Rattle.lists.proofs.Tests.{as_false, none_of, tests}
use Rattle.plan_lines.specs.PlanText.{NEWLINE, Lines, rest, ended, before, lines_of, read_lines, read_plan}

-- Back to the bytes

abbrev pub bytes_of : Lines → List ℕ
bytes_of (rest l) = l
bytes_of (ended l ls) = l ++ NEWLINE ∷ bytes_of ls

bytes_before : (b : ℕ) (ls : Lines) → bytes_of (before b ls) ≡ b ∷ bytes_of ls
bytes_before b (rest l) = refl
bytes_before b (ended l ls) = refl

pub whole : (t : List ℕ) → bytes_of (lines_of t) ≡ t
whole [] = refl
whole (b ∷ t) = go (eqb b NEWLINE) refl (whole t)
  where
    go : (e : Bool) → eqb b NEWLINE ≡ e → bytes_of (lines_of t) ≡ t → bytes_of (cond e (ended [] (lines_of t)) (before b (lines_of t))) ≡ b ∷ t
    go true e h = λ z. sym (eqb-true b NEWLINE e) z ∷ h z
    go false e h = bytes_before b (lines_of t) ∙ ap (λ (l : List ℕ). b ∷ l) h

-- Lines that hold no newline

abbrev pub is_newline : ℕ → Bool
is_newline b = eqb b NEWLINE

abbrev pub one_line : List ℕ → Bool
one_line l = none_of is_newline l

abbrev pub are_split : Lines → Bool
are_split (rest l) = one_line l
are_split (ended l ls) = one_line l && are_split ls

split_before : (b : ℕ) (ls : Lines) → is_newline b ≡ false → T (are_split ls) → T (are_split (before b ls))
split_before b (rest l) e h = rw e h
split_before b (ended l ls) e h = rw e h

pub all_split : (t : List ℕ) → T (are_split (lines_of t))
all_split [] = tt
all_split (b ∷ t) = go (is_newline b) refl (all_split t)
  where
    go : (e : Bool) → is_newline b ≡ e → T (are_split (lines_of t)) → T (are_split (cond e (ended [] (lines_of t)) (before b (lines_of t))))
    go true e h = h
    go false e h = split_before b (lines_of t) e h

-- And split again

pub line_ended : (l t : List ℕ) → T (one_line l) → lines_of (l ++ NEWLINE ∷ t) ≡ ended l (lines_of t)
line_ended [] t h = refl
line_ended (b ∷ l) t h = rw (as_false (is_newline b) (search tests), line_ended l t (search tests))

line_unended : (l : List ℕ) → T (one_line l) → lines_of l ≡ rest l
line_unended [] h = refl
line_unended (b ∷ l) h = rw (as_false (is_newline b) (search tests), line_unended l (search tests))

pub split_again : (ls : Lines) → T (are_split ls) → lines_of (bytes_of ls) ≡ ls
split_again (rest l) h = line_unended l h
split_again (ended l ls) h = line_ended l (bytes_of ls) (search tests) ∙ ap (ended l) (split_again ls (search tests))

-- A text of at most 65,536 bytes is read by its lines

pub by_lines : (t : List ℕ) → length t ≤ 65536 → read_plan t ≡ read_lines 0 (lines_of t)
unfolding read_plan
by_lines t h = rw (le-leb (length t) 65536 h)
