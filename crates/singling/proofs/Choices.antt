-- A condition is true exactly where some choice of literals is; how many choices there are, and what is in them.
use mathlib.Core.Path.{◌≡◌, refl, ap₂, ◌∙◌}
use mathlib.Core.Bool.{Bool, false, ◌&&◌, ◌||◌, or-false}
use mathlib.Core.List.{List, [], ◌∷◌, map}
use Prim.Native.Nat.{ℕ, suc}
use lib.Dec.{T, eqb, eqb-suc-suc}
use lib.ListN.{length, length-map}
use Rattle.lists.specs.Lists.{singleton, all, any}
use Rattle.meaning.specs.Task.{Literal, Condition}
use Rattle.meaning.specs.Meaning.{State, literal_true, is_true}
use Rattle.lists.proofs.Tests.{tests, all-concat}
use Rattle.singling.specs.Singled.{choices, choice_count}
use Rattle.singling.proofs.Lists.{any-map, any-concat, any_each, any-and_left, any-and_right, all_mapped, all_joined, length-concat}

-- Truth

-- every literal of a choice is true
abbrev pub choice_true : State → List Literal → Bool
choice_true s ls = is_true s (map singleton ls)

-- the choices that take the literal l first
abbrev pub taking : Condition → Literal → List (List Literal)
taking c l = map (λ (ls : List Literal). l ∷ ls) (choices c)

taking_true : (s : State) (c : Condition) → any (choice_true s) (choices c) ≡ is_true s c → (l : Literal)
    → any (choice_true s) (taking c l) ≡ (literal_true s l && is_true s c)
taking_true s c e l =
    any-map (choice_true s) (λ (ls : List Literal). l ∷ ls) (choices c)
    ∙ any-and_left (literal_true s l || false) (choice_true s) (choices c)
    ∙ ap₂ ◌&&◌ (or-false (literal_true s l)) e

pub choices-true : (s : State) (c : Condition) → any (choice_true s) (choices c) ≡ is_true s c
choices-true s [] = refl
choices-true s (k ∷ c) =
    any-concat (choice_true s) (taking c) k
    ∙ any_each (λ (l : Literal). any (choice_true s) (taking c l)) (λ (l : Literal). literal_true s l && is_true s c)
    (taking_true s c (choices-true s c)) k
    ∙ any-and_right (is_true s c) (literal_true s) k

-- Number

pub choices_counted : (c : Condition) → length (choices c) ≡ choice_count c
choices_counted [] = refl
choices_counted (k ∷ c) =
    length-concat (taking c) (choice_count c) (λ l. length-map (choices c) (λ (ls : List Literal). l ∷ ls) ∙ choices_counted c) k

-- Parts

-- a test that the literals pass whatever is chosen
pub choices_pass : (p : Literal → Bool) (c : Condition) → T (all (all p) c) → T (all (all p) (choices c))
choices_pass p [] t = tt
choices_pass p (k ∷ c) t =
    let rest : T (all (all p) (choices c)) = choices_pass p c (search tests) in
    all_joined (all p) p (taking c)
    (λ l h. all_mapped (all p) (all p) (λ (ls : List Literal). l ∷ ls) (λ ls g. search tests) (choices c) rest)
    k (search tests)

-- so many literals
abbrev pub has_length : ℕ → List Literal → Bool
has_length n ls = eqb (length ls) n

-- a choice has a literal from each clause
pub choices_whole : (c : Condition) → T (all (has_length (length c)) (choices c))
choices_whole [] = tt
choices_whole (k ∷ c) =
    all-concat (has_length (suc (length c))) (taking c)
    (λ l. all_mapped (has_length (suc (length c))) (has_length (length c)) (λ (ls : List Literal). l ∷ ls)
    (λ ls g. rw (eqb-suc-suc (length ls) (length c)) g) (choices c) (choices_whole c))
    k
