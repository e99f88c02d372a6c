-- A list in order has the members of the list that it is made from, each once: it tells two lists apart exactly by their members.
use mathlib.Core.Path.{◌≡◌, refl, sym, subst}
use mathlib.Core.Logic.{inl, inr}
use mathlib.Core.Bool.{Bool, true, false, beq}
use mathlib.Core.List.{List}
use Prim.Native.Nat.{ℕ, ◌<◌}
use native.Mathlib.Omega.{arith}
use lib.Dec.{T, eqb, ltb, ltb→lt, eqb→eq, eqb_refl}
use Rattle.lists.specs.Lists.{any, range}
use Rattle.meaning.specs.Task.{Literal, Clause, facts_below}
use Rattle.task.proofs.Pieces.{literals_ok}
use Rattle.lists.proofs.Tests.{tests, and_both}
use Rattle.canonical.specs.Canonical.{in_order, literal, same_literal, both_literals, literals}
use Rattle.canonical.specs.SameSpelling.{Member, SameMembers}
use Rattle.canonical.proofs.Members.{both_ways, any_same_members, member_any, any_member, member_passes, filter_member, member_kept}
use Rattle.canonical.proofs.Members.{filter_same, number_member, concat_member}

-- a test that passes for equals and for no others
pub record Tells {A : Type 0} (same : A → A → Bool) : Type 0 where
  pub equal : (x y : A) → T (same x y) → x ≡ y
  pub itself : (x : A) → T (same x x)

module _ {A : Type 0} (same : A → A → Bool) (tells : Tells same) (order : List A) where
  has→member : (x : A) (xs : List A) → T (any (same x) xs) → Member x xs
  has→member x xs t =
      let r : (y : A) × Member y xs × T (same x y) = any_member (same x) xs t in
      subst (λ (y : A). Member y xs) (sym (tells.equal x r.0 r.2)) r.1

  member→has : (x : A) (xs : List A) → Member x xs → T (any (same x) xs)
  member→has x xs m = member_any (same x) x xs m (tells.itself x)

  member_before : (x : A) (xs : List A) → Member x (in_order same order xs) → Member x xs
  member_before x xs m = has→member x xs (member_kept (λ (y : A). any (same y) xs) x order m).1

  -- every member of xs is in the order
  abbrev pub Covered : List A → Type 0
  Covered xs = (x : A) → Member x xs → Member x order

  pub in_order_members : (xs : List A) → Covered xs → SameMembers xs (in_order same order xs)
  in_order_members xs c x =
      (λ m. filter_member (λ (y : A). any (same y) xs) x order (c x m) (member→has x xs m), member_before x xs)

  pub in_order_same : (xs ys : List A) → SameMembers xs ys → in_order same order xs ≡ in_order same order ys
  in_order_same xs ys e = filter_same (λ (x : A). any (same x) xs) (λ (x : A). any (same x) ys) order (λ x m. any_same_members (same x) xs ys e)

  pub in_order_twice : (xs : List A) → in_order same order (in_order same order xs) ≡ in_order same order xs
  in_order_twice xs =
      filter_same (λ (x : A). any (same x) (in_order same order xs)) (λ (x : A). any (same x) xs) order
      (λ x m. both_ways (any (same x) (in_order same order xs)) (any (same x) xs)
      (λ t. member→has x xs (member_before x xs (has→member x (in_order same order xs) t)))
      (λ t. member→has x (in_order same order xs) (filter_member (λ (y : A). any (same y) xs) x order m t)))

-- Facts and literals

pub eqb_tells : Tells eqb
eqb_tells = record { equal = eqb→eq; itself = eqb_refl }

beq→eq : (a b : Bool) → T (beq a b) → a ≡ b
beq→eq true true t = refl
beq→eq true false t = absurd t
beq→eq false true t = absurd t
beq→eq false false t = refl

beq_refl : (a : Bool) → T (beq a a)
beq_refl true = tt
beq_refl false = tt

pub literal_tells : Tells same_literal
literal_tells =
    record {
      equal = λ l m t. λ i. record {
        holds = beq→eq l.holds m.holds (search tests) i;
        fact = eqb→eq l.fact m.fact (search tests) i;
      };
      itself = λ l. and_both (beq l.holds l.holds) (eqb l.fact l.fact) (beq_refl l.holds) (eqb_refl l.fact);
    }

fact_below : (F n : ℕ) → T (ltb n F) → Member n (range 0 F)
fact_below F n t = let h : n < F = ltb→lt n F t in number_member n 0 F (omega arith) (omega arith)

pub facts_covered : (F : ℕ) (ns : List ℕ) → T (facts_below F ns) → (n : ℕ) → Member n ns → Member n (range 0 F)
facts_covered F ns t n m = fact_below F n (member_passes (λ (n : ℕ). ltb n F) n ns t m)

pub literals_covered : (F : ℕ) (c : Clause) → T (literals_ok F c) → (l : Literal) → Member l c → Member l (literals F)
literals_covered F c t l m =
    concat_member both_literals l l.fact (range 0 F) (fact_below F l.fact (member_passes (λ (l : Literal). ltb l.fact F) l c t m))
    (one_of l.holds l.fact)
  where
    one_of : (b : Bool) (n : ℕ) → Member (literal b n) (both_literals n)
    one_of true n = inl refl
    one_of false n = inr (inl refl)
