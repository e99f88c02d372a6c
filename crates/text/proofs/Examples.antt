-- Texts, computed.
use mathlib.Core.Path.{◌≡◌, refl}
use mathlib.Core.List.{[], ◌∷◌}
use Rattle.text.specs.Ascii.{ascii}
use Rattle.text.specs.Text.{decimal, refused_line}
use Rattle.text.specs.Area.{written}

word : ascii "met\n" ≡ 109 ∷ 101 ∷ 116 ∷ 10 ∷ []
word = refl

nought : decimal 0 ≡ ascii "0"
unfolding decimal
nought = refl

largest : decimal 18446744073709551615 ≡ ascii "18446744073709551615"
unfolding decimal
largest = refl

refusal : refused_line 11 2047 ≡ ascii "refused 11 2047\n"
unfolding refused_line decimal
refusal = refl

cut : written (ascii "abc") 2 (ascii "....") ≡ ascii "..ab"
unfolding written
cut = refl
