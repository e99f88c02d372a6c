-- Texts over the belt's translation, and what is answered for them. There 2 is end, 3 to 6 are collect and forgo.
use mathlib.Core.Path.{◌≡◌, refl}
use mathlib.Core.List.{List, [], ◌∷◌, ◌++◌, map}
use Prim.Native.Nat.{ℕ}
use Rattle.task.specs.Check.{check, check_rows}
use Rattle.task.proofs.Belt.{belt}
use Rattle.classical.specs.Translation.{translated}
use Rattle.outcome.specs.Outcome.{Outcome, written, refused}
use Rattle.text.specs.Ascii.{ascii}
use Rattle.text.specs.Text.{decimal}
use Rattle.plan_lines.specs.PlanText.{NEWLINE, step_line, text_of, read_plan}
use Rattle.plan_text.specs.Outcomes.{steps_in}
use Rattle.translation.specs.Translated
use Rattle.translation.specs.Measured.{measured}
use Rattle.source.specs.Source.{outcome, part_in}

-- a text, the room of the area, the answer, and the source part
pub record Example : Type 0 where
  pub text : List ℕ
  pub room : ℕ
  pub answered : Outcome
  pub part : List ℕ

abbrev example : List ℕ → ℕ → Outcome → List ℕ → Example
example t n o p = record { text = t; room = n; answered = o; part = p }

abbrev solution : List ℕ
solution = text_of (0 ∷ 2 ∷ 4 ∷ 5 ∷ []) ++ ascii "; cost = 8" ++ (NEWLINE ∷ [])

abbrev examples : List Example
examples =
    example solution 1 (written 1) (0 ∷ [])
    ∷ example solution 0 (refused 9 0) (0 ∷ [])
    ∷ example (text_of (2 ∷ 1 ∷ 6 ∷ 0 ∷ [])) 2 (written 2) (1 ∷ 0 ∷ [])
    ∷ example (text_of (6 ∷ [])) 0 (written 0) []
    ∷ example (text_of (0 ∷ 7 ∷ [])) 0 (refused 11 1) (0 ∷ [])
    ∷ example (text_of (0 ∷ 300 ∷ [])) 1 (refused 11 1) (0 ∷ [])
    ∷ example (text_of (7 ∷ []) ++ ascii "(a0)") 0 (refused 12 1) []
    ∷ example [] 0 (written 0) []
    ∷ []

pub as_said : map (λ (e : Example). outcome belt e.text e.room) examples ≡ map (λ (e : Example). e.answered) examples
unfolding check check_rows translated Translated.outcome measured decimal step_line text_of read_plan outcome
as_said = refl

pub parts : map (λ (e : Example). part_in belt e.text) examples ≡ map (λ (e : Example). e.part) examples
unfolding decimal step_line text_of read_plan steps_in part_in
parts = refl
