-- The chosen place is taken: what holds before any of its actions is tried.
use mathlib.Core.Path.{◌≡◌, refl, sym, ◌∙◌, ap, subst}
use mathlib.Core.Bool.{Bool, true, false, cond, ◌||◌, true≢false}
use mathlib.Core.List.{List}
use Prim.Native.Nat.{ℕ, zero, suc, ◌<◌, ◌≤◌}
use native.Mathlib.Nat.{not-suc-le-zero}
use native.Mathlib.Decide.{ℕ_discrete}
use native.Mathlib.Omega.{arith}
use lib.Dec.{eqb}
use lib.ListN.{length}
use borrow.Author.Tests.{eqb-true, eq-eqb, ne_eqb}
use Rattle.meaning.specs.Task.{Task}
use Rattle.meaning.specs.Meaning.{is_true, applies}
use Rattle.searching.specs.Search.{Node, node_at, with_place}
use Rattle.searching.proofs.Choice.{Cheapest}
use Rattle.searching.proofs.Invariant.{Every, Upto, Ready, Entered, rooted, count, depth}

-- One place more

module _ (i : ℕ) (taken : ℕ → Bool) where
  -- what holds at i and at each place taken before
  pub taken_each : (P : ℕ → Type 0) → P i → ((j : ℕ) → taken j ≡ true → P j) → (j : ℕ) → with_place i taken j ≡ true → P j
  taken_each P p f j = go (eqb j i) refl
    where
      go : (b : Bool) → eqb j i ≡ b → (b || taken j) ≡ true → P j
      go true e h = subst P (sym (eqb-true j i e)) p
      go false e h = f j h

  pub taken_still : (j : ℕ) → taken j ≡ true → with_place i taken j ≡ true
  taken_still j h = go (eqb j i)
    where
      go : (b : Bool) → (b || taken j) ≡ true
      go true = refl
      go false = h

  pub taken_now : with_place i taken i ≡ true
  taken_now = rw (eq-eqb i i refl)

  open_before : (j : ℕ) → with_place i taken j ≡ false → taken j ≡ false
  open_before j = go (eqb j i)
    where
      go : (b : Bool) → (b || taken j) ≡ false → taken j ≡ false
      go true h = absurd (true≢false h)
      go false h = h

  -- one more is taken

  count_upto : (n : ℕ) → n ≤ i → count (with_place i taken) n ≡ count taken n
  count_upto zero h = refl
  count_upto (suc n) h =
      rw (ne_eqb n i (omega arith)) (ap (λ (c : ℕ). cond (taken n) (suc c) c) (count_upto n (omega arith)))

  count_more : (n : ℕ) → i < n → taken i ≡ false → count (with_place i taken) n ≡ suc (count taken n)
  count_more zero h o = absurd (not-suc-le-zero h)
  count_more (suc n) h o = go (ℕ_discrete n i) (count_more n)
    where
      more : (b : Bool) (c d : ℕ) → c ≡ suc d → cond b (suc c) c ≡ suc (cond b (suc d) d)
      more true c d e = ap suc e
      more false c d e = e

      go : Dec (n ≡ i) → (i < n → taken i ≡ false → count (with_place i taken) n ≡ suc (count taken n))
          → count (with_place i taken) (suc n) ≡ suc (count taken (suc n))
      go (yes q) lower = rw (eq-eqb n i q, ap taken q ∙ o) (ap suc (count_upto n (omega arith)))
      go (no q) lower = rw (ne_eqb n i q) (more (taken n) (count (with_place i taken) n) (count taken n) (lower (omega arith) o))

count_most : (taken : ℕ → Bool) (n : ℕ) → count taken n ≤ n
count_most taken zero = omega arith
count_most taken (suc n) = go (taken n) (count_most taken n)
  where
    go : (b : Bool) → count taken n ≤ n → cond b (suc (count taken n)) (count taken n) ≤ suc n
    go true h = omega arith
    go false h = omega arith

-- where a place is open, not all are counted
pub count_open : (taken : ℕ → Bool) (n j : ℕ) → j < n → taken j ≡ false → count taken n < n
count_open taken zero j h o = absurd (not-suc-le-zero h)
count_open taken (suc n) j h o = go (ℕ_discrete j n) (count_open taken n j)
  where
    less : (b : Bool) → count taken n < n → cond b (suc (count taken n)) (count taken n) < suc n
    less true l = omega arith
    less false l = omega arith

    go : Dec (j ≡ n) → (j < n → taken j ≡ false → count taken n < n) → count taken (suc n) < suc n
    go (yes q) lower = rw (sym (ap taken q) ∙ o) (omega (arith, count_most taken n))
    go (no q) lower = less (taken n) (lower (omega arith) o)

-- nothing is counted after the last taken place
count_within : (taken : ℕ → Bool) (n l : ℕ) → ((j : ℕ) → taken j ≡ true → j < n) → n ≤ l → count taken l ≡ count taken n
count_within taken n zero f h = let e : n ≡ 0 = omega arith in rw e
count_within taken n (suc l) f h = go (ℕ_discrete n (suc l)) (count_within taken n l f)
  where
    after : (b : Bool) → taken l ≡ b → n ≤ l → count taken l ≡ count taken n → cond b (suc (count taken l)) (count taken l) ≡ count taken n
    after true e g c = absurd (omega (arith, f l e))
    after false e g c = c

    go : Dec (n ≡ suc l) → (n ≤ l → count taken l ≡ count taken n) → count taken (suc l) ≡ count taken n
    go (yes q) lower = rw q
    go (no q) lower = let g : n ≤ l = omega arith in after (taken l) refl g (lower g)

-- there are no more turns than nodes
module _ (t : Task) (limit : ℕ) (ns : List Node) (taken : ℕ → Bool) (done : ℕ → ℕ → Type 0) (m : ℕ) (R : Ready t limit ns taken done m) where
  pub turns_most : m ≤ length ns
  turns_most = omega (arith, R.counted, count_within taken (length ns) limit R.within R.room, count_most taken (length ns))

  pub turns_open : (j : ℕ) → j < length ns → taken j ≡ false → m < length ns
  turns_open j h o = omega (arith, R.counted, count_within taken (length ns) limit R.within R.room, count_open taken (length ns) j h o)

module _ (t : Task) (limit : ℕ) (ns : List Node) (taken : ℕ → Bool) (m i : ℕ) (R : Ready t limit ns taken Every m)
    (C : Cheapest ns taken (length ns) i) where
  pub take_ready : is_true (node_at ns i).state t.goal ≡ false → Ready t limit ns (with_place i taken) (Upto i 0) (suc m)
  take_ready no_goal =
      record {
        some = R.some;
        room = R.room;
        first = R.first;
        below = R.below;
        distinct = R.distinct;
        within = taken_each i taken (λ j. j < length ns) C.within R.within;
        linked = λ j h z. let r = R.linked j h z in (taken_still i taken (node_at ns j).origin r.0, r.1);
        shallow =
            taken_each i taken (λ j. (n : ℕ) × (n < suc m) × (rooted ns n j ≡ true))
            (let d = depth t limit ns taken Every m R i C.within in (d.0, omega arith, d.2))
            (λ j e. let r = R.shallow j e in (r.0, omega arith, r.2));
        ordered = λ a b e h o.
            taken_each i taken (λ j. (node_at ns j).cost ≤ (node_at ns b).cost)
            (C.least b h (open_before i taken b o)) (λ j e. R.ordered j b e h (open_before i taken b o)) a e;
        closed = λ a k e d p.
            taken_each i taken (λ j. (j ≡ i → k < 0) → applies t (node_at ns j).state k ≡ true → Entered t ns (node_at ns j) k)
            (λ d p. absurd (not-suc-le-zero (d refl))) (λ j e d p. R.closed j k e tt p) a e d p;
        unmet = taken_each i taken (λ j. is_true (node_at ns j).state t.goal ≡ false) no_goal R.unmet;
        counted = count_more i taken limit (omega (arith, C.within, R.room)) C.is_open ∙ ap suc R.counted;
      }

  -- no taken node costs more than the chosen one
  pub take_top : (j : ℕ) → with_place i taken j ≡ true → (node_at ns j).cost ≤ (node_at ns i).cost
  take_top =
      taken_each i taken (λ j. (node_at ns j).cost ≤ (node_at ns i).cost) (omega arith)
      (λ j e. R.ordered j i e C.within C.is_open)
