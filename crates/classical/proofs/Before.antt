-- A condition of the state that an action reaches, said of the state that it leaves. The action's effects have no conditions.
use mathlib.Core.Path.{◌≡◌, refl, sym, ◌∙◌, ap, ap₂}
use mathlib.Core.Bool.{Bool, true, false, not, cond, ◌&&◌, ◌||◌, beq}
use mathlib.Core.List.{List, [], ◌∷◌, map}
use lib.Dec.{T}
use Rattle.lists.specs.Lists.{all, any, filter, concat_map, elem, is_empty}
use Rattle.meaning.specs.Task.{Literal, Clause, Condition, Effect, Action}
use Rattle.meaning.specs.Meaning.{State, literal_true, is_true, fired, after}
use Rattle.classical.specs.Translation.{deny}
use Rattle.lists.proofs.Tests.{none_of, all_implies, filter-all, any-filter}

-- effects add or delete the fact of a literal
abbrev pub adds : Literal → List Effect → Bool
adds l es = elem l.fact (concat_map (λ (e : Effect). e.adds) es)

abbrev pub deletes : Literal → List Effect → Bool
deletes l es = elem l.fact (concat_map (λ (e : Effect). e.deletes) es)

-- the action makes a literal true, whatever was before
abbrev pub makes : Action → Literal → Bool
makes a l = cond l.holds (adds l a.effects) (deletes l a.effects && not (adds l a.effects))

-- clauses that it makes true go, and so do literals that it makes false
abbrev pub before : Action → Condition → Condition
before a c = map (filter (λ (l : Literal). not (makes a (deny l)))) (filter (none_of (makes a)) c)

-- The law

abbrev unconditional : Effect → Bool
unconditional e = is_empty e.condition

by_bits : (h x added deleted : Bool)
    → beq (added || x && not deleted) h
    ≡ (cond h added (deleted && not added) || not (cond (not h) added (deleted && not added)) && beq x h)
by_bits true true true deleted = refl
by_bits true true false true = refl
by_bits true true false false = refl
by_bits true false true deleted = refl
by_bits true false false true = refl
by_bits true false false false = refl
by_bits false true true true = refl
by_bits false true true false = refl
by_bits false true false true = refl
by_bits false true false false = refl
by_bits false false true true = refl
by_bits false false true false = refl
by_bits false false false true = refl
by_bits false false false false = refl

either : (m n l r : Bool) → ((m || n) || (l || r)) ≡ ((m || l) || (n || r))
either true n l r = refl
either false true true r = refl
either false true false r = refl
either false false l r = refl

module _ (s : State) (a : Action) (h : T (all unconditional a.effects)) where
  all_fire : fired s a ≡ a.effects
  all_fire =
      filter-all (λ (e : Effect). is_true s e.condition) a.effects
      (all_implies unconditional (λ (e : Effect). is_true s e.condition) (λ e. fires e.condition) a.effects h)
    where
      fires : (c : Condition) → T (is_empty c) → T (is_true s c)
      fires [] t = tt
      fires (x ∷ c) t = absurd t

  literal_before : (l : Literal) → literal_true (after s a) l ≡ (makes a l || not (makes a (deny l)) && literal_true s l)
  literal_before l =
      ap (λ (es : List Effect). beq (adds l es || s l.fact && not (deletes l es)) l.holds) all_fire
      ∙ by_bits l.holds (s l.fact) (adds l a.effects) (deletes l a.effects)

  abbrev stays : Literal → Bool
  stays l = not (makes a (deny l))

  clause_before : (c : Clause) → any (literal_true (after s a)) c ≡ (any (makes a) c || any (literal_true s) (filter stays c))
  clause_before c = split c ∙ ap (λ (b : Bool). any (makes a) c || b) (sym (any-filter stays (literal_true s) c))
    where
      split : (c : Clause) → any (literal_true (after s a)) c ≡ (any (makes a) c || any (λ (l : Literal). stays l && literal_true s l) c)
      split [] = refl
      split (l ∷ c) =
          ap₂ ◌||◌ (literal_before l) (split c)
          ∙ either (makes a l) (stays l && literal_true s l) (any (makes a) c) (any (λ (l : Literal). stays l && literal_true s l) c)

  none_any : (c : Clause) → none_of (makes a) c ≡ not (any (makes a) c)
  none_any [] = refl
  none_any (l ∷ c) = go (makes a l) (none_any c)
    where
      go : (b : Bool) → none_of (makes a) c ≡ not (any (makes a) c) → (not b && none_of (makes a) c) ≡ not (b || any (makes a) c)
      go true e = refl
      go false e = e

  pub said_before : (c : Condition) → is_true (after s a) c ≡ is_true s (before a c)
  said_before [] = refl
  said_before (c ∷ φ) = ap₂ ◌&&◌ (clause_before c) (said_before φ) ∙ go (any (makes a) c) (none_any c)
    where
      go : (b : Bool) → none_of (makes a) c ≡ not b
          → ((b || any (literal_true s) (filter stays c)) && is_true s (before a φ))
          ≡ is_true s (map (filter stays) (cond (none_of (makes a) c) (c ∷ filter (none_of (makes a)) φ) (filter (none_of (makes a)) φ)))
      go true e = rw e
      go false e = rw e
