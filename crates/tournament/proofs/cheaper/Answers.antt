-- By the costs of the two nodes, where there are two: `by_cost`.
use borrow.Author.Rules.{rules}
use mathlib.Core.Path.{◌≡◌, sym, ◌∙◌, ap, ap₂}
use mathlib.Core.Bool.{Bool, true, false, cond}
use mathlib.Core.List.{List}
use Prim.Native.Nat.{ℕ, suc}
use lib.Dec.{ltb}
use borrow.Author.Tests.{lt-ltb, le-ltb}
use Rattle.tournament.specs.Tournament.{cost_at, cheaper}
use Rattle.tournament.proofs.Games.{no_first, no_second, by_cost}
use Rattle.tournament.proofs.cheaper.Goals as goal

pub returns-in_default : goal.returns-in_default
returns-in_default c =
    let a = c.args in
    (no_first a.words.now a.a a.b c.in_default.ensures, search rules)

pub returns-in_default-place_of : goal.returns-in_default-place_of
returns-in_default-place_of c =
    let a = c.args in
    (no_second a.words.now a.a a.b c.in_default-place_of.ensures, search rules)

-- the costs that the code compares
compared : (ws : List ℕ) (a b p q x y : ℕ) → a ≡ suc p → b ≡ suc q → x ≡ cost_at ws q → y ≡ cost_at ws p
    → (t : Bool) → ltb x y ≡ t → cond t b a ≡ cheaper ws a b
compared ws a b p q x y h g u v t e =
    ap (λ (s : Bool). cond s b a) (sym e ∙ ap₂ ltb u v) ∙ by_cost ws a b p q h g

pub returns-then-cost_at : goal.returns-then-cost_at
returns-then-cost_at c =
    let a = c.args in (
      compared a.words.now a.a a.b c.in-Some.p c.in-Some-place_of.q c.cost_at.result c.cost_at-2.result c.in-Some.ensures c.in-Some-place_of.ensures
          c.cost_at.ensures c.cost_at-2.ensures true (lt-ltb c.cost_at.result c.cost_at-2.result (search rules)),
      search rules,
    )

pub returns-else-cost_at : goal.returns-else-cost_at
returns-else-cost_at c =
    let a = c.args in (
      compared a.words.now a.a a.b c.in-Some.p c.in-Some-place_of.q c.cost_at.result c.cost_at-2.result c.in-Some.ensures c.in-Some-place_of.ensures
          c.cost_at.ensures c.cost_at-2.ensures false (le-ltb c.cost_at.result c.cost_at-2.result (search rules)),
      search rules,
    )
