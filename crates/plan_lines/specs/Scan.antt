-- The code's way through a text: a step's line or one byte a turn. What it comes to is said by PlanText, not here.
use Rattle.std.specs.Prelude.{◌≡◌, Bool, true, false, cond, List, [], ◌∷◌, ◌++◌, ℕ, suc, ◌+◌, ◌*◌, ◌-◌, ◌≤◌, eqb, length, drop}
use Rattle.text.specs.Ascii.{ascii}
use Rattle.text.specs.Text.{decimal, is_digit}
use Rattle.plan_lines.specs.PlanText.{NEWLINE, SEMICOLON, step_line, as_byte, Read, plan, faulty}
use Rattle.plan_lines.specs.declared.scan.Mode.{Mode}
use Rattle.plan_lines.specs.declared.scan.Mode.TheVariants.{Opening, Comment, Bracket, Letter, Zero, Digits, Closed, Other}
use Rattle.plan_lines.specs.declared.scan.Scan.{Scan}

-- a line after one byte more
abbrev pub follow : Mode → ℕ → Mode
follow Opening b = cond (eqb b SEMICOLON) Comment (cond (eqb b 40) Bracket Other)
follow Comment b = Comment
follow Bracket b = cond (eqb b 97) Letter Other
follow Letter b = cond (eqb b 48) Zero (cond (is_digit b) (Digits (b - 48)) Other)
follow Zero b = cond (eqb b 41) (Closed 0) Other
follow (Digits n) b = cond (eqb b 41) (Closed n) (cond (is_digit b) (Digits (as_byte (10 * n + (b - 48)))) Other)
follow (Closed n) b = Other
follow Other b = Other

-- at the start of line i, after k steps
abbrev pub at_line : ℕ → ℕ → Scan
at_line i k = record { mode = Opening; line = i; steps = k }

-- after a newline: the next line, or the same where it has another form
abbrev pub next_line : Mode → ℕ → ℕ → Scan
next_line Opening i k = record { mode = Other; line = i; steps = k }
next_line Comment i k = at_line (suc i) k
next_line Bracket i k = record { mode = Other; line = i; steps = k }
next_line Letter i k = record { mode = Other; line = i; steps = k }
next_line Zero i k = record { mode = Other; line = i; steps = k }
next_line (Digits n) i k = record { mode = Other; line = i; steps = k }
next_line (Closed n) i k = at_line (suc i) (suc k)
next_line Other i k = record { mode = Other; line = i; steps = k }

abbrev pub advance : Scan → ℕ → Scan
advance s b = cond (eqb b NEWLINE) (next_line s.mode s.line s.steps) (record { mode = follow s.mode b; line = s.line; steps = s.steps })

abbrev pub is_opening : Mode → Bool
is_opening Opening = true
is_opening Comment = false
is_opening Bracket = false
is_opening Letter = false
is_opening Zero = false
is_opening (Digits n) = false
is_opening (Closed n) = false
is_opening Other = false

-- how many steps a text has, or its faulty line
pub data Count : Type 0 where
  all : ℕ → Count
  faulty_at : ℕ → Count

-- after k steps
abbrev pub count : ℕ → Read → Count
count k (plan p) = all (k + length p)
count k (faulty i) = faulty_at i

abbrev pub counted : Scan → Count
counted s = cond (is_opening s.mode) (all s.steps) (faulty_at s.line)

-- a line that was begun
abbrev pub begun : Mode → ℕ
begun m = cond (is_opening m) 0 1

-- the step of a line, where it is one
abbrev pub step_of : Mode → List ℕ
step_of Opening = []
step_of Comment = []
step_of Bracket = []
step_of Letter = []
step_of Zero = []
step_of (Digits n) = []
step_of (Closed n) = n ∷ []
step_of Other = []

-- a line's step comes with its newline
abbrev pub step_at : Mode → ℕ → List ℕ
step_at m b = cond (eqb b NEWLINE) (step_of m) []

abbrev pub start : Scan
start = at_line 0 0

-- the steps that come from here on
unfoldable pub steps_from : Scan → List ℕ → List ℕ
steps_from s [] = []
steps_from s (b ∷ t) = step_at s.mode b ++ steps_from (advance s b) t

-- A step's line at once

-- t is `(a`, then n in decimal up to byte k, and then the rest
pub record Numbered (t : List ℕ) (k n : ℕ) : Type 0 where
  pub is : t ≡ ascii "(a" ++ (decimal n ++ drop k t)

-- n is the step, and `)` and a newline stand from byte k on, before byte `size`
pub record Closes (t : List ℕ) (k n step size : ℕ) : Type 0 where
  pub same : step ≡ n
  pub ends : drop k t ≡ ascii ")\n" ++ drop size t
  pub inside : size ≤ length t

-- t begins with the line of step n, which has so many bytes with its newline
pub record Begins (t : List ℕ) (n size : ℕ) : Type 0 where
  pub is : t ≡ step_line n ++ (NEWLINE ∷ drop size t)
  pub inside : size ≤ length t
