-- When a condition is true.
use mathlib.Core.Path.{◌≡◌, ap}
use mathlib.Core.Bool.{Bool, ◌&&◌, beq}
use mathlib.Core.List.{◌++◌}
use Prim.Native.Nat.{ℕ, ◌<◌}
use lib.Dec.{T, ltb, ltb→lt}
use Rattle.lists.specs.Lists.{all, any}
use Rattle.meaning.specs.Task.{Literal, Clause, Condition, condition_below}
use Rattle.meaning.specs.Meaning.{State, literal_true, is_true}
use Rattle.lists.proofs.Tests.{all_append, any_same, all_same}

pub both_parts : (s : State) (c d : Condition) → is_true s (c ++ d) ≡ (is_true s c && is_true s d)
both_parts s c d = all_append (any (literal_true s)) c d

-- two states that hold the same facts below F
abbrev pub Agree : ℕ → State → State → Type 0
Agree F s r = (n : ℕ) → n < F → s n ≡ r n

pub same_truth : (F : ℕ) (s r : State) → Agree F s r → (c : Condition) → T (condition_below F c) → is_true s c ≡ is_true r c
same_truth F s r e = all_same (any (literal_true s)) (any (literal_true r)) (all (λ (l : Literal). ltb l.fact F)) clause
  where
    literal : (l : Literal) → T (ltb l.fact F) → literal_true s l ≡ literal_true r l
    literal l t = ap (λ (b : Bool). beq b l.holds) (e l.fact (ltb→lt l.fact F t))

    clause : (k : Clause) → T (all (λ (l : Literal). ltb l.fact F) k) → any (literal_true s) k ≡ any (literal_true r) k
    clause = any_same (literal_true s) (literal_true r) (λ (l : Literal). ltb l.fact F) literal
