-- The library's copy, by `first_words`.
use borrow.Author.Rules.{rules}
use mathlib.Core.Path.{ap, ◌∙◌}
use mathlib.Core.List.{List, ◌++◌}
use Prim.Native.Nat.{ℕ}
use lib.ListN.{drop}
use Rattle.cheapest.proofs.Copied.{first_words}
use Rattle.cheapest.proofs.plain.copy_words.Goals as goal

pub returns : goal.returns
returns c =
    let a = c.args in
    ap (λ (l : List ℕ). l ++ drop a.n a.out.now) (c.copy_from_slice.ensures.after ∙ first_words a.words.now a.n (search rules))
