-- Texts that tell what they are of, whatever stands after them.
use mathlib.Core.Path.{◌≡◌, refl, sym, ap, ◌∙◌}
use mathlib.Core.Bool.{true, false}
use mathlib.Core.List.{List, [], ◌∷◌, ◌++◌, append_assoc, append_cancel_left, head-eq_of_cons-eq, tail-eq_of_cons-eq}
use mathlib.Core.Logic.{◌≢◌}
use Prim.Native.Nat.{ℕ}
use Rattle.lists.specs.Lists.{all}
use Rattle.lists.proofs.Tests.{not_both, both_true}
use Rattle.text.specs.Text.{decimal, is_digit, number_from}
use Rattle.text.proofs.Digits.{decimal_digits, number_back}
use Rattle.pddl_parts.specs.Pddl.{spaced}

abbrev pub Tells : {A : Type 0} → (A → List ℕ) → Type 0
Tells {A} f = (a b : A) (xs ys : List ℕ) → f a ++ xs ≡ f b ++ ys → (a ≡ b) × (xs ≡ ys)

-- Words before and after

module _ {A : Type 0} (f : A → List ℕ) (tells : Tells f) (w : List ℕ) where
  pub word_before : Tells (λ (a : A). w ++ f a)
  word_before a b xs ys e =
      tells a b xs ys (append_cancel_left w (f a ++ xs) (f b ++ ys) (sym (append_assoc w (f a) xs) ∙ e ∙ append_assoc w (f b) ys))

  pub word_after : Tells (λ (a : A). f a ++ w)
  word_after a b xs ys e =
      let (p, q) = tells a b (w ++ xs) (w ++ ys) (sym (append_assoc (f a) w xs) ∙ e ∙ append_assoc (f b) w ys) in
      (p, append_cancel_left w xs ys q)

-- One text and another after it
pub both : {A B : Type 0} (f : A → List ℕ) (g : B → List ℕ) → Tells f → Tells g → Tells (λ (p : A × B). f p.0 ++ g p.1)
both f g tf tg (a, b) (c, d) xs ys e =
    let (p, q) = tf a c (g b ++ xs) (g d ++ ys) (sym (append_assoc (f a) (g b) xs) ∙ e ∙ append_assoc (f c) (g d) ys) in
    let (r, s) = tg b d xs ys q in
    (λ i. (p i, r i), s)

pub regroup : (p q r s : List ℕ) → p ++ ((q ++ r) ++ s) ≡ ((p ++ q) ++ r) ++ s
regroup p q r s = ap (λ (l : List ℕ). p ++ l) (append_assoc q r s) ∙ sym (append_assoc p q (r ++ s)) ∙ sym (append_assoc (p ++ q) r s)

-- Numbers, which a byte that is no digit ends

module _ (c : ℕ) (ends : is_digit c ≡ false) where
  digits_end : (ds es xs ys : List ℕ) → all is_digit ds ≡ true → all is_digit es ≡ true → ds ++ (c ∷ xs) ≡ es ++ (c ∷ ys) → (ds ≡ es) × (xs ≡ ys)
  digits_end [] [] xs ys p q e = (refl, tail-eq_of_cons-eq e)
  digits_end [] (d ∷ es) xs ys p q e = absurd (not_both (ap is_digit (head-eq_of_cons-eq e) ∙ (both_true (is_digit d) (all is_digit es) q).0) ends)
  digits_end (d ∷ ds) [] xs ys p q e = absurd (not_both (sym (ap is_digit (head-eq_of_cons-eq e)) ∙ (both_true (is_digit d) (all is_digit ds) p).0) ends)
  digits_end (d ∷ ds) (f ∷ es) xs ys p q e =
      let (r, s) = digits_end ds es xs ys (both_true (is_digit d) (all is_digit ds) p).1 (both_true (is_digit f) (all is_digit es) q).1 (tail-eq_of_cons-eq e) in
      (λ i. head-eq_of_cons-eq e i ∷ r i, s)

  pub number_then : {B : Type 0} (g : B → List ℕ) → Tells g → Tells (λ (p : ℕ × B). decimal p.0 ++ (c ∷ g p.1))
  number_then g tg (n, a) (m, b) xs ys e =
      let (p, q) = digits_end (decimal n) (decimal m) (g a ++ xs) (g b ++ ys) (decimal_digits n) (decimal_digits m)
      (sym (append_assoc (decimal n) (c ∷ g a) xs) ∙ e ∙ append_assoc (decimal m) (c ∷ g b) ys) in
      let (r, s) = tg a b xs ys q in
      (λ i. ((sym (number_back n) ∙ ap (number_from 0) p ∙ number_back m) i, r i), s)

-- Lists, which another byte than a space ends

module _ {A : Type 0} (f : A → List ℕ) (tells : Tells f) (c : ℕ) (ends : c ≢ 32) where
  pub list_then : {B : Type 0} (g : B → List ℕ) → Tells g → Tells (λ (p : List A × B). spaced f p.0 ++ (c ∷ g p.1))
  list_then g tg ([], a) ([], b) xs ys e = let (r, s) = tg a b xs ys (tail-eq_of_cons-eq e) in (λ i. ([], r i), s)
  list_then g tg ([], a) (n ∷ m, b) xs ys e = absurd (ends (head-eq_of_cons-eq e))
  list_then g tg (n ∷ l, a) ([], b) xs ys e = absurd (ends (sym (head-eq_of_cons-eq e)))
  list_then g tg (n ∷ l, a) (k ∷ m, b) xs ys e =
      let (p, q) = tells n k ((spaced f l ++ (c ∷ g a)) ++ xs) ((spaced f m ++ (c ∷ g b)) ++ ys)
      (regroup (f n) (spaced f l) (c ∷ g a) xs ∙ tail-eq_of_cons-eq e ∙ sym (regroup (f k) (spaced f m) (c ∷ g b) ys)) in
      let (r, s) = list_then g tg (l, a) (m, b) xs ys q in
      (λ i. (p i ∷ (r i).0, (r i).1), s)

-- A word alone

module _ (w : List ℕ) where
  abbrev pub only : Unit {0} → List ℕ
  only u = w

  pub only_tells : Tells only
  only_tells a b xs ys e = (refl, append_cancel_left w xs ys e)

pub number_tells : (c : ℕ) → is_digit c ≡ false → (w : List ℕ) → Tells (λ (n : ℕ). decimal n ++ (c ∷ w))
number_tells c ends w n m xs ys e = let (p, q) = number_then c ends (only w) (only_tells w) (n, tt) (m, tt) xs ys e in (ap (λ (u : ℕ × Unit {0}). u.0) p, q)

pub list_tells : {A : Type 0} (f : A → List ℕ) → Tells f → (c : ℕ) → c ≢ 32 → (w : List ℕ) → Tells (λ (l : List A). spaced f l ++ (c ∷ w))
list_tells {A} f tf c ends w l m xs ys e =
    let (p, q) = list_then f tf c ends (only w) (only_tells w) (l, tt) (m, tt) xs ys e in (ap (λ (u : List A × Unit {0}). u.0) p, q)
