-- A task with single literals in its effects stays as it is.
use mathlib.Core.Path.{◌≡◌, refl, sym, ap, ap₂, ◌∙◌}
use mathlib.Core.List.{List, [], ◌∷◌, ◌++◌, map, append-nil}
use Prim.Native.Nat.{ℕ, zero, suc, ◌*◌, ◌≤◌}
use native.Mathlib.Nat.{zero-mul, mul-zero, one-mul, mul-le-mul_right}
use native.Mathlib.Omega.{arith}
use lib.ListN.{length}
use Rattle.lists.specs.Lists.{singleton, concat_map}
use Rattle.meaning.specs.Task.{Literal, Clause, Condition, Effect, Action, Task}
use Rattle.task.specs.File.{Sizes, file_of}
use Rattle.task.specs.Check.{check, accepted}
use Rattle.lists.proofs.Tests.{concat-append}
use Rattle.singling.specs.Singled.{choices, choice_count, chosen, singled_effect, singled_action, singled, singled_file, singled_rows}
use Rattle.singling.proofs.SingledFile.{singled_file_lem}

one_choice : (ls : List Literal) → choices (map singleton ls) ≡ singleton ls
one_choice [] = refl
one_choice (l ∷ ls) =
    append-nil (map (λ (ks : List Literal). l ∷ ks) (choices (map singleton ls)))
    ∙ ap (map (λ (ks : List Literal). l ∷ ks)) (one_choice ls)

-- a product of 1 has no other factors
one_one : (m n : ℕ) → m * n ≡ 1 → (m ≡ 1) × (n ≡ 1)
one_one zero n e = absurd (omega (arith, zero-mul n))
one_one (suc zero) n e = (refl, omega (arith, one-mul n))
one_one (suc (suc m)) zero e = absurd (omega (arith, mul-zero (suc (suc m))))
one_one (suc (suc m)) (suc n) e =
    let more : 2 * suc n ≤ suc (suc m) * suc n = mul-le-mul_right (suc n) (omega arith) in
    absurd (omega (arith, more))

-- of a condition with one choice every clause has one literal
alone : (c : Condition) → choice_count c ≡ 1 → (ls : List Literal) × (c ≡ map singleton ls)
alone [] e = ([], refl)
alone (c ∷ cs) e = go c (one_one (length c) (choice_count cs) e).0 (alone cs (one_one (length c) (choice_count cs) e).1)
  where
    go : (k : Clause) → length k ≡ 1 → (ls : List Literal) × (cs ≡ map singleton ls) → (ls : List Literal) × (k ∷ cs ≡ map singleton ls)
    go [] h r = absurd (omega arith)
    go (l ∷ []) h (ls, q) = (l ∷ ls, ap (λ (xs : Condition). singleton l ∷ xs) q)
    go (l ∷ m ∷ k) h r = absurd (omega arith)

-- an effect with one choice stays as it is
pub effect_stays : (e : Effect) → choice_count e.condition ≡ 1 → singled_effect e ≡ singleton e
effect_stays e h = build (alone e.condition h)
  where
    build : (ls : List Literal) × (e.condition ≡ map singleton ls) → singled_effect e ≡ singleton e
    build (ls, q) =
        ap (λ (c : Condition). map (chosen e) (choices c)) q
        ∙ ap (map (chosen e)) (one_choice ls)
        ∙ (λ i. record { condition = sym q i; adds = e.adds; deletes = e.deletes } ∷ [])

chosen_twice : (e : Effect) (cs : List (List Literal)) → concat_map singled_effect (map (chosen e) cs) ≡ map (chosen e) cs
chosen_twice e [] = refl
chosen_twice e (ls ∷ cs) = ap₂ ◌++◌ (ap (map (chosen (chosen e ls))) (one_choice ls)) (chosen_twice e cs)

effects_twice : (es : List Effect) → concat_map singled_effect (concat_map singled_effect es) ≡ concat_map singled_effect es
effects_twice [] = refl
effects_twice (e ∷ es) =
    concat-append singled_effect (singled_effect e) (concat_map singled_effect es)
    ∙ ap₂ ◌++◌ (chosen_twice e (choices e.condition)) (effects_twice es)

actions_twice : (l : List Action) → map singled_action (map singled_action l) ≡ map singled_action l
actions_twice [] = refl
actions_twice (a ∷ l) =
    λ i. record { cost = a.cost; precondition = a.precondition; effects = effects_twice a.effects i } ∷ actions_twice l i

pub singled_twice : (t : Task) → singled (singled t) ≡ singled t
unfolding singled
singled_twice t =
    λ i. record {
      facts = t.facts;
      start = t.start;
      goal = t.goal;
      actions = actions_twice t.actions i;
      preferences = t.preferences;
    }

-- what is written of an accepted file is written of itself
pub twice : (b : List ℕ) (z : Sizes) → check b ≡ accepted z → singled_rows b ≤ 12000 → singled_file (singled_file b) ≡ singled_file b
twice b z h n = ap (λ (t : Task). file_of (singled t)) (singled_file_lem b z h n).reading ∙ ap file_of (singled_twice _)
