-- The one spelling is what code writes from sets of facts, by rising fact.
use mathlib.Core.Path.{◌≡◌, refl, ap, ap₂, ◌∙◌}
use mathlib.Core.Bool.{Bool, true, false, not, cond, ◌&&◌, ◌||◌, beq}
use mathlib.Core.List.{List, [], ◌∷◌, ◌++◌}
use Prim.Native.Nat.{ℕ}
use lib.Dec.{eqb}
use Rattle.lists.specs.Lists.{any, filter, concat_map, elem, range}
use Rattle.meaning.specs.Task.{Literal, Clause}
use Rattle.lists.proofs.Tests.{filter-append}
use Rattle.canonical.specs.Canonical.{literal, same_literal, both_literals, canonical_clause, canonical_facts}
use Rattle.canonical.specs.BySets.{holds_in, lacks_in, when, literals_by_sets, facts_by_set}

any_holds : (n : ℕ) (c : Clause) → any (same_literal (literal true n)) c ≡ holds_in c n
any_holds n [] = refl
any_holds n (l ∷ c) = ap₂ (λ (b d : Bool). b && eqb n l.fact || d) (beq_true l.holds) (any_holds n c)
  where
    beq_true : (b : Bool) → beq true b ≡ b
    beq_true true = refl
    beq_true false = refl

any_lacks : (n : ℕ) (c : Clause) → any (same_literal (literal false n)) c ≡ lacks_in c n
any_lacks n [] = refl
any_lacks n (l ∷ c) = ap₂ (λ (b d : Bool). b && eqb n l.fact || d) (beq_false l.holds) (any_lacks n c)
  where
    beq_false : (b : Bool) → beq false b ≡ not b
    beq_false true = refl
    beq_false false = refl

two_kept : {A : Type 0} (a b : Bool) (x y : A) → cond a (x ∷ when b y) (when b y) ≡ when a x ++ when b y
two_kept true b x y = refl
two_kept false b x y = refl

clause_from : (c : Clause) (ns : List ℕ)
    → filter (λ (l : Literal). any (same_literal l) c) (concat_map both_literals ns)
    ≡ concat_map (λ (n : ℕ). when (holds_in c n) (literal true n) ++ when (lacks_in c n) (literal false n)) ns
clause_from c [] = refl
clause_from c (n ∷ ns) =
    filter-append (λ (l : Literal). any (same_literal l) c) (both_literals n) (concat_map both_literals ns)
    ∙ ap₂ ◌++◌ (two_kept (any (same_literal (literal true n)) c) (any (same_literal (literal false n)) c) (literal true n) (literal false n)
    ∙ λ i. when (any_holds n c i) (literal true n) ++ when (any_lacks n c i) (literal false n)) (clause_from c ns)

pub clause_by_sets : (F : ℕ) (c : Clause) → canonical_clause F c ≡ literals_by_sets (holds_in c) (lacks_in c) F
clause_by_sets F c = clause_from c (range 0 F)

filter_by_one : {A : Type 0} (p : A → Bool) (xs : List A) → filter p xs ≡ concat_map (λ (x : A). when (p x) x) xs
filter_by_one p [] = refl
filter_by_one {A} p (x ∷ xs) = go (p x) (filter_by_one p xs)
  where
    go : (b : Bool) → filter p xs ≡ concat_map (λ (x : A). when (p x) x) xs
        → cond b (x ∷ filter p xs) (filter p xs) ≡ when b x ++ concat_map (λ (x : A). when (p x) x) xs
    go true e = ap (λ (ys : List A). x ∷ ys) e
    go false e = e

pub facts_by_set_lem : (F : ℕ) (ns : List ℕ) → canonical_facts F ns ≡ facts_by_set (λ (n : ℕ). elem n ns) F
facts_by_set_lem F ns = filter_by_one (λ (n : ℕ). elem n ns) (range 0 F)
