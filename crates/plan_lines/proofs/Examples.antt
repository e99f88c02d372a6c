-- Texts, computed: what the definitions give, and what they should.
use mathlib.Core.Path.{◌≡◌, refl}
use mathlib.Core.List.{List, [], ◌∷◌, ◌++◌, map}
use Prim.Native.Nat.{ℕ}
use Rattle.text.specs.Ascii.{ascii}
use Rattle.text.specs.Text.{decimal}
use Rattle.plan_lines.specs.PlanText.{step_line, text_of, Read, plan, faulty, read_plan}

writes : text_of (0 ∷ 10 ∷ 255 ∷ []) ≡ ascii "(a0)\n(a10)\n(a255)\n"
unfolding text_of step_line decimal
writes = refl

pub record Example : Type 0 where
  pub text : List ℕ
  pub read : Read

abbrev reads : List ℕ → Read → Example
reads t r = record { text = t; read = r }

-- lines after two good ones, of which the first has another form or no newline
abbrev third : List ℕ → Example
third l = reads (ascii "(a1)\n;\n" ++ l) (faulty 2)

abbrev examples : List Example
examples =
    reads [] (plan [])
    ∷ reads (ascii ";\n; (a7)\n") (plan [])
    ∷ reads (ascii "; from\n(a0)\n(a10)\n;;\n(a255)\n") (plan (0 ∷ 10 ∷ 255 ∷ []))
    ∷ reads (ascii "(a254)\n(a256)\n(a300)\n(a65536000000000000000000000000000000000000001)\n") (plan (254 ∷ 255 ∷ 255 ∷ 255 ∷ []))
    ∷ third (ascii "(a1)")
    ∷ third (ascii ";")
    ∷ third (ascii "\n(a1)\n")
    ∷ third (ascii "(a)\n")
    ∷ third (ascii "(a00)\n")
    ∷ third (ascii "(a01)\n")
    ∷ third (ascii "(a-1)\n")
    ∷ third (ascii "(A1)\n")
    ∷ third (ascii " (a1)\n")
    ∷ third (ascii "(a1) \n")
    ∷ third (ascii "(a1);\n")
    ∷ third (ascii "(a1)" ++ (13 ∷ 10 ∷ []))
    ∷ third (ascii "(a1)2\n(a1\n")
    ∷ []

pub as_said : map (λ (e : Example). read_plan e.text) examples ≡ map (λ (e : Example). e.read) examples
unfolding read_plan step_line decimal
as_said = refl
