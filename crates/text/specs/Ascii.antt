-- Words as bytes.
use Rattle.std.specs.Prelude.{List, [] as none, ◌∷◌ as ◌before◌, ℕ}
use Prim.Native.Char.{code}
use Prim.Native.String.{String, [], ◌∷◌}

-- the codes of a text's characters
abbrev pub ascii : String → List ℕ
ascii [] = none
ascii (c ∷ s) = code c before ascii s
