-- Laws of tests: Bools as facts and as equations, and tests over lists.
use mathlib.Core.Path.{◌≡◌, refl, sym, ◌∙◌, ap, ap₂, subst}
use mathlib.Core.Logic.{◌≢◌}
use mathlib.Core.Bool.{Bool, true, false, not, cond, ◌&&◌, ◌||◌, true≢false, beq, and_assoc, or_assoc}
use mathlib.Core.List.{List, [], ◌∷◌, ◌++◌, map, append_assoc}
use Prim.Native.Nat.{ℕ, zero, suc, ◌<◌}
use native.Mathlib.Nat.{le_of_suc-le-suc, not-suc-le-zero}
use lib.Dec.{T, eqb}
use lib.ListN.{length, get_or, drop}
use borrow.Author.Tests.{ne_eqb}
use Rattle.lists.specs.Lists.{all, any, filter, take_until, concat_map, elem}

-- A test as a fact and as an equation

pub as_true : (b : Bool) → T b → b ≡ true
as_true true t = refl
as_true false t = absurd t

pub as_false : (b : Bool) → T (not b) → b ≡ false
as_false true t = absurd t
as_false false t = refl

pub as_t : {b : Bool} → b ≡ true → T b
as_t e = rw e tt

pub never : {b : Bool} → T b → b ≡ false → ⊥
never t e = subst T e t

pub denied : (b : Bool) → T (not b) → T b → ⊥
denied true n t = n
denied false n t = t

pub not_both : {b : Bool} → b ≡ true → b ≡ false → ⊥
not_both p q = true≢false (sym p ∙ q)

-- The connectives

pub and_left : (a b : Bool) → T (a && b) → T a
and_left true b t = tt
and_left false b t = t

pub and_right : (a b : Bool) → T (a && b) → T b
and_right true b t = t
and_right false b t = absurd t

pub and_both : (a b : Bool) → T a → T b → T (a && b)
and_both true b s t = t
and_both false b s t = s

pub both_true : (a b : Bool) → (a && b) ≡ true → (a ≡ true) × (b ≡ true)
both_true true b e = (refl, e)
both_true false b e = absurd (true≢false (sym e))

-- for `search`: takes a test of && apart, and puts one together
pub ruleset tests = (and_left, and_right, and_both)

pub or_left : (a b : Bool) → T a → T (a || b)
or_left true b t = tt
or_left false b t = absurd t

pub or_right : (a b : Bool) → T b → T (a || b)
or_right true b t = tt
or_right false b t = t

pub is_true_lem : (b : Bool) → beq b true ≡ b
is_true_lem true = refl
is_true_lem false = refl

pub is_false : (b : Bool) → beq b false ≡ not b
is_false true = refl
is_false false = refl

-- Numbers

pub other_false : {m n : ℕ} → m ≢ n → eqb m n ≡ false
other_false {m} {n} = ne_eqb m n

-- Lists

abbrev pub without : {A : Type 0} → (A → Bool) → A → Bool
without p x = not (p x)

-- no element passes the test
abbrev pub none_of : {A : Type 0} → (A → Bool) → List A → Bool
none_of p = all (without p)

module _ {A : Type 0} (p : A → Bool) where
  pub all_append : (xs ys : List A) → all p (xs ++ ys) ≡ (all p xs && all p ys)
  all_append [] ys = refl
  all_append (x ∷ xs) ys = rw (all_append xs ys, and_assoc)

  pub any_append : (xs ys : List A) → any p (xs ++ ys) ≡ (any p xs || any p ys)
  any_append [] ys = refl
  any_append (x ∷ xs) ys = rw (any_append xs ys, or_assoc)

  pub all_both : (xs ys : List A) → T (all p xs) → T (all p ys) → T (all p (xs ++ ys))
  all_both xs ys s t = rw (all_append xs ys) (search tests)

  pub all_at : (xs : List A) (i : ℕ) (d : A) → T (all p xs) → i < length xs → T (p (get_or xs i d))
  all_at [] i d t h = absurd (not-suc-le-zero h)
  all_at (x ∷ xs) zero d t h = search tests
  all_at (x ∷ xs) (suc i) d t h = all_at xs i d (search tests) (le_of_suc-le-suc h)

  pub all_drop : (n : ℕ) (xs : List A) → T (all p xs) → T (all p (drop n xs))
  all_drop zero xs t = t
  all_drop (suc n) [] t = tt
  all_drop (suc n) (x ∷ xs) t = all_drop n xs (search tests)

  pub all_implies : (q : A → Bool) → ((x : A) → T (p x) → T (q x)) → (xs : List A) → T (all p xs) → T (all q xs)
  all_implies q f [] t = tt
  all_implies q f (x ∷ xs) t = and_both (q x) (all q xs) (f x (search tests)) (all_implies q f xs (search tests))

  pub all-zip : (q r : A → Bool) → ((x : A) → T (p x) → T (q x) → T (r x)) → (xs : List A) → T (all p xs) → T (all q xs)
      → T (all r xs)
  all-zip q r f [] s t = tt
  all-zip q r f (x ∷ xs) s t =
      and_both (r x) (all r xs) (f x (search tests) (search tests)) (all-zip q r f xs (search tests) (search tests))

  -- two tests that agree on what passes a third
  pub any_same : (q r : A → Bool) → ((x : A) → T (r x) → p x ≡ q x) → (xs : List A) → T (all r xs) → any p xs ≡ any q xs
  any_same q r e [] t = refl
  any_same q r e (x ∷ xs) t = ap₂ ◌||◌ (e x (search tests)) (any_same q r e xs (search tests))

  pub all_same : (q r : A → Bool) → ((x : A) → T (r x) → p x ≡ q x) → (xs : List A) → T (all r xs) → all p xs ≡ all q xs
  all_same q r e [] t = refl
  all_same q r e (x ∷ xs) t = ap₂ ◌&&◌ (e x (search tests)) (all_same q r e xs (search tests))

  pub filter-append : (xs ys : List A) → filter p (xs ++ ys) ≡ filter p xs ++ filter p ys
  filter-append [] ys = refl
  filter-append (x ∷ xs) ys = rw (filter-append xs ys) (step (p x) (filter p xs))
    where
      step : (b : Bool) (l : List A) → cond b (x ∷ (l ++ filter p ys)) (l ++ filter p ys) ≡ cond b (x ∷ l) l ++ filter p ys
      step true l = refl
      step false l = refl

  pub all_filter : (xs : List A) → T (all p (filter p xs))
  all_filter [] = tt
  all_filter (x ∷ xs) = step (p x) refl (all_filter xs)
    where
      step : (b : Bool) → p x ≡ b → T (all p (filter p xs)) → T (all p (cond b (x ∷ filter p xs) (filter p xs)))
      step true e t = and_both (p x) (all p (filter p xs)) (as_t e) t
      step false e t = t

  pub filter-all : (xs : List A) → T (all p xs) → filter p xs ≡ xs
  filter-all [] t = refl
  filter-all (x ∷ xs) t = rw (as_true (p x) (search tests), filter-all xs (search tests))

  pub filter_none : (xs : List A) → T (none_of p xs) → filter p xs ≡ []
  filter_none [] t = refl
  filter_none (x ∷ xs) t = rw (as_false (p x) (search tests), filter_none xs (search tests))

  pub any-filter : (q : A → Bool) (xs : List A) → any q (filter p xs) ≡ any (λ (x : A). p x && q x) xs
  any-filter q [] = refl
  any-filter q (x ∷ xs) = go (p x) (any-filter q xs)
    where
      go : (b : Bool) → any q (filter p xs) ≡ any (λ (y : A). p y && q y) xs
          → any q (cond b (x ∷ filter p xs) (filter p xs)) ≡ ((b && q x) || any (λ (y : A). p y && q y) xs)
      go true e = rw e
      go false e = e

  pub take_until-none : (xs ys : List A) → T (none_of p xs) → take_until p (xs ++ ys) ≡ xs ++ take_until p ys
  take_until-none [] ys t = refl
  take_until-none (x ∷ xs) ys t = rw (as_false (p x) (search tests), take_until-none xs ys (search tests))

module _ {A B : Type 0} where
  pub take_until-map : (p : B → Bool) (f : A → B) (xs : List A) → take_until p (map f xs) ≡ map f (take_until (λ (x : A). p (f x)) xs)
  take_until-map p f [] = refl
  take_until-map p f (x ∷ xs) = go (p (f x)) (take_until-map p f xs)
    where
      go : (b : Bool) → take_until p (map f xs) ≡ map f (take_until (λ (x : A). p (f x)) xs)
          → cond b [] (f x ∷ take_until p (map f xs)) ≡ map f (cond b [] (x ∷ take_until (λ (x : A). p (f x)) xs))
      go true e = refl
      go false e = ap (λ (l : List B). f x ∷ l) e

  pub all_map : (p : B → Bool) (f : A → B) → ((a : A) → T (p (f a))) → (l : List A) → T (all p (map f l))
  all_map p f h [] = tt
  all_map p f h (a ∷ l) = and_both (p (f a)) (all p (map f l)) (h a) (all_map p f h l)

  pub all-concat : (p : B → Bool) (f : A → List B) → ((a : A) → T (all p (f a))) → (l : List A) → T (all p (concat_map f l))
  all-concat p f h [] = tt
  all-concat p f h (a ∷ l) = all_both p (f a) (concat_map f l) (h a) (all-concat p f h l)

  pub concat-append : (f : A → List B) (xs ys : List A) → concat_map f (xs ++ ys) ≡ concat_map f xs ++ concat_map f ys
  concat-append f [] ys = refl
  concat-append f (x ∷ xs) ys = ap (λ (zs : List B). f x ++ zs) (concat-append f xs ys) ∙ sym (append_assoc (f x) (concat_map f xs) (concat_map f ys))

  -- g undoes f on each element that passes the test
  pub map_back : (ok : A → Bool) (f : A → B) (g : B → A) → ((a : A) → T (ok a) → g (f a) ≡ a) → (l : List A) → T (all ok l)
      → map g (map f l) ≡ l
  map_back ok f g h [] t = refl
  map_back ok f g h (a ∷ l) t = rw (h a (search tests), map_back ok f g h l (search tests))

  pub map_undo : (f : A → B) (g : B → A) → ((a : A) → g (f a) ≡ a) → (l : List A) → map g (map f l) ≡ l
  map_undo f g h [] = refl
  map_undo f g h (a ∷ l) = rw (h a, map_undo f g h l)

pub elem-concat : {A : Type 0} (n : ℕ) (f : A → List ℕ) (xs : List A) → elem n (concat_map f xs) ≡ any (λ (x : A). elem n (f x)) xs
elem-concat n f [] = refl
elem-concat n f (x ∷ xs) =
    any_append (eqb n) (f x) (concat_map f xs) ∙ ap (λ (b : Bool). elem n (f x) || b) (elem-concat n f xs)
