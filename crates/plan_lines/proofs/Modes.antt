-- What an arm for several forms of a line knows.
use mathlib.Core.Path.{◌≡◌, refl}
use mathlib.Core.Bool.{false}
use mathlib.Core.List.{[]}
use Prim.Native.Nat.{ℕ}
use Rattle.plan_lines.specs.Scan.{next_line, is_opening, step_of}
use Rattle.plan_lines.specs.declared.scan.Mode.{Mode}
use Rattle.plan_lines.specs.declared.scan.Mode.TheVariants.{Opening, Comment, Bracket, Letter, Zero, Digits, Closed, Other}

pub another_form : (m : Mode) (i k : ℕ) → (m ≡ Comment → ⊥) → ((n : ℕ) → m ≡ Closed n → ⊥)
    → record { mode = Other; line = i; steps = k } ≡ next_line m i k
another_form Opening i k _ _ = refl
another_form Comment i k no_comment _ = absurd (no_comment refl)
another_form Bracket i k _ _ = refl
another_form Letter i k _ _ = refl
another_form Zero i k _ _ = refl
another_form (Digits n) i k _ _ = refl
another_form (Closed n) i k _ not_closed = absurd (not_closed n refl)
another_form Other i k _ _ = refl

pub a_line_begun : (m : Mode) → (m ≡ Opening → ⊥) → false ≡ is_opening m
a_line_begun Opening not_opening = absurd (not_opening refl)
a_line_begun Comment _ = refl
a_line_begun Bracket _ = refl
a_line_begun Letter _ = refl
a_line_begun Zero _ = refl
a_line_begun (Digits n) _ = refl
a_line_begun (Closed n) _ = refl
a_line_begun Other _ = refl

pub no_step : (m : Mode) → ((n : ℕ) → m ≡ Closed n → ⊥) → step_of m ≡ []
no_step Opening _ = refl
no_step Comment _ = refl
no_step Bracket _ = refl
no_step Letter _ = refl
no_step Zero _ = refl
no_step (Digits n) _ = refl
no_step (Closed n) not_closed = absurd (not_closed n refl)
no_step Other _ = refl
