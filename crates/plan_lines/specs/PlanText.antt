-- A plan as text, by document 02, request 1: a line for each step, and comments.
use Rattle.std.specs.Prelude.{Bool, true, false, cond, ◌&&◌, List, [], ◌∷◌, ◌++◌, ℕ, suc, eqb, leb, ltb, length}
use Rattle.text.specs.Ascii.{ascii}
use Rattle.text.specs.Text.{decimal, number_from}
use Rattle.task.specs.Limits.{MAX_TEXT}

abbrev pub NEWLINE : ℕ
NEWLINE = 10

abbrev pub SEMICOLON : ℕ
SEMICOLON = 59

-- Writing

-- the line of step n, without its newline
unfoldable pub step_line : ℕ → List ℕ
step_line n = ascii "(a" ++ decimal n ++ ascii ")"

-- a line for each step, ended by a newline
unfoldable pub text_of : List ℕ → List ℕ
text_of [] = []
text_of (n ∷ p) = step_line n ++ (NEWLINE ∷ text_of p)

-- Reading: the lines of a text

-- lines that end in a newline, and what stands after the last newline
pub data Lines : Type 0 where
  rest : List ℕ → Lines
  ended : List ℕ → Lines → Lines

-- a byte before the first line
abbrev pub before : ℕ → Lines → Lines
before b (rest l) = rest (b ∷ l)
before b (ended l ls) = ended (b ∷ l) ls

abbrev pub lines_of : List ℕ → Lines
lines_of [] = rest []
lines_of (b ∷ t) = cond (eqb b NEWLINE) (ended [] (lines_of t)) (before b (lines_of t))

-- Reading: one line

abbrev pub same : List ℕ → List ℕ → Bool
same [] [] = true
same [] (y ∷ ys) = false
same (x ∷ xs) [] = false
same (x ∷ xs) (y ∷ ys) = eqb x y && same xs ys

-- a number too large for a byte is read as 255
abbrev pub as_byte : ℕ → ℕ
as_byte n = cond (ltb n 255) n 255

pub data Line : Type 0 where
  comment : Line
  step : ℕ → Line
  other : Line

-- the line of step n, for the number n that its digits make, or another form
abbrev pub step_or : List ℕ → ℕ → Line
step_or l n = cond (same l (step_line n)) (step (as_byte n)) other

abbrev pub line_of : List ℕ → Line
line_of [] = other
line_of (b ∷ l) = cond (eqb b SEMICOLON) comment (step_or (b ∷ l) (number_from 0 (b ∷ l)))

-- Reading: the whole text

-- a plan, or the number of the first line that has another form or no newline
pub data Read : Type 0 where
  plan : List ℕ → Read
  faulty : ℕ → Read

abbrev pub step_before : ℕ → Read → Read
step_before n (plan p) = plan (n ∷ p)
step_before n (faulty i) = faulty i

-- line i, before what is read after it
abbrev pub line_before : ℕ → Line → Read → Read
line_before i comment r = r
line_before i (step n) r = step_before n r
line_before i other r = faulty i

-- the lines from number i on
abbrev pub read_lines : ℕ → Lines → Read
read_lines i (rest []) = plan []
read_lines i (rest (b ∷ l)) = faulty i
read_lines i (ended l ls) = line_before i (line_of l) (read_lines (suc i) ls)

unfoldable pub read_plan : List ℕ → Read
read_plan t = cond (leb (length t) MAX_TEXT) (read_lines 0 (lines_of t)) (faulty 0)
