-- Costs and soft weights: no number of 32 bits is refused, and what a lower limit on them accepts is accepted with the same sizes; what a plan costs at most.
use mathlib.Core.Path.{◌≡◌, refl, ap, ap₂}
use mathlib.Core.Bool.{Bool, true, false, not, cond, ◌&&◌, ◌||◌, true≢false}
use mathlib.Core.List.{List, [], ◌∷◌}
use mathlib.Core.Option.{Option, none, some}
use Prim.Native.Nat.{ℕ, zero, suc, ◌+◌, ◌*◌, ◌≤◌, ◌<◌}
use native.Mathlib.Nat.{zero-add}
use native.Mathlib.Omega.{arith}
use lib.Dec.{T, leb, leb→le, eqb, ltb, ltb→lt, lt→ltb}
use lib.ListN.{length, take, drop, get_or}
use borrow.Author.Tests.{le-leb, leb-true}
use Rattle.lists.specs.Lists.{all}
use Rattle.meaning.specs.Task.{Action, Task}
use Rattle.meaning.specs.Meaning.{no_action, action_at, cost}
use Rattle.task.specs.Spelling.{action_spellable, spellable}
use Rattle.task.specs.Marks.{ACTION}
use Rattle.task.specs.TaskRows.{Row, row}
use Rattle.task.specs.File.{Sizes, sizes, word32, paired, rows, has_mark, opens_soft}
use Rattle.task.specs.Check.{Answer, accepted, refused, Context, follow, may_end, value_allowed, Progress, first_progress, next_progress, finish, check_on}
use Rattle.task.specs.Check.{check_rows, sizes_allowed, check}
use Rattle.task.specs.Limits.{MAX_AMOUNT}
use Rattle.task.specs.Refused.{COUNTS, LENGTH, MARK, SHORT_FILE, SIZE, VALUE}
use Rattle.lists.proofs.Tests.{tests, and_both, all_drop, not_both}
use Rattle.task.proofs.Bytes.{are_bytes, small}

-- a row whose value is a cost or a soft preference's weight
abbrev pub is_amount : Row → Bool
is_amount x = has_mark ACTION x || opens_soft x.mark

-- No number of 32 bits is refused

-- of bytes, every value is such a number
module _ (vs : List ℕ) (bytes : T (are_bytes vs)) where
  byte : (k : ℕ) → get_or vs k 0 < 256
  byte k = go vs k bytes
    where
      go : (vs : List ℕ) (k : ℕ) → T (are_bytes vs) → get_or vs k 0 < 256
      go [] k t = omega arith
      go (v ∷ vs) zero t = ltb→lt v 256 (search tests)
      go (v ∷ vs) (suc k) t = go vs k (search tests)

  word_fits : word32 vs < 4294967296
  word_fits = omega (arith, byte 0, byte 1, byte 2, byte 3)

small_values : (ms vs : List ℕ) → T (are_bytes vs) → T (small (paired ms vs))
small_values [] vs t = tt
small_values (m ∷ ms) vs t =
    and_both (ltb (word32 vs) 4294967296) (small (paired ms (drop 4 vs))) (lt→ltb (word32 vs) 4294967296 (word_fits vs t))
    (small_values ms (drop 4 vs) (all_drop (λ (n : ℕ). ltb n 256) 4 vs t))

-- so it is allowed where it is a cost or a soft weight
amount_allowed : (F floor : ℕ) (x : Row) → T (ltb x.value 4294967296) → is_amount x ≡ true → value_allowed F floor x ≡ true
amount_allowed F floor x t e = rw (e, le-leb x.value MAX_AMOUNT (omega (arith, ltb→lt x.value 4294967296 t)))

-- row j is refused by 5, the first of the rows being row i: it is no such row
abbrev NoAmount : List Row → ℕ → ℕ → Type 0
NoAmount xs i j = (k : ℕ) × (j ≡ i + k) × (is_amount (get_or xs k (row 0 0)) ≡ false)

finish_number : (z : Sizes) (i : ℕ) (w : Progress) (j : ℕ) → finish z i w ≡ refused VALUE j → ⊥
finish_number z i w j e = go (may_end w.context) (eqb w.actions z.actions && eqb w.preferences z.preferences) e
  where
    go : (u v : Bool) → cond u (cond v (accepted z) (refused COUNTS i)) (refused MARK i) ≡ refused VALUE j → ⊥
    go true true e = true≢false (cc)
    go true false e = true≢false (cc)
    go false v e = true≢false (cc)

walk_refused : (z : Sizes) (i : ℕ) (xs : List Row) (w : Progress) → T (small xs) → (j : ℕ) → check_rows z i xs w ≡ refused VALUE j → NoAmount xs i j
unfolding check_rows
walk_refused z i [] w t j e = absurd (finish_number z i w j e)
walk_refused z i (x ∷ xs) w t j e =
    go (follow w.context x.mark) e (λ v. walk_refused z (i + 1) xs v (search tests) j)
  where
    later : NoAmount xs (i + 1) j → NoAmount (x ∷ xs) i j
    later (k, at, none_there) = (suc k, omega arith, none_there)

    here : (a : Bool) → is_amount x ≡ a → value_allowed z.facts w.floor x ≡ false → i ≡ j → NoAmount (x ∷ xs) i j
    here true amount e at = absurd (not_both (amount_allowed z.facts w.floor x (search tests) amount) e)
    here false other e at = (0, omega arith, other)

    by_value : (u : Bool) → value_allowed z.facts w.floor x ≡ u → (a : Answer) → (a ≡ refused VALUE j → NoAmount xs (i + 1) j)
        → cond u a (refused VALUE i) ≡ refused VALUE j → NoAmount (x ∷ xs) i j
    by_value true v a rest e = later (rest e)
    by_value false v a rest e = here (is_amount x) refl v (cc)

    go : (o : Option Context) → check_on z i x w (check_rows z (i + 1) xs) o ≡ refused VALUE j
        → ((v : Progress) → check_rows z (i + 1) xs v ≡ refused VALUE j → NoAmount xs (i + 1) j) → NoAmount (x ∷ xs) i j
    go none e rest = absurd (true≢false (cc))
    go (some c) e rest =
        by_value (value_allowed z.facts w.floor x) refl (check_rows z (i + 1) xs (next_progress w c x)) (rest (next_progress w c x)) e

-- of bytes, 5 refuses no cost and no soft weight, however large
pub never_an_amount : (b : List ℕ) → T (are_bytes b) → (i : ℕ) → check b ≡ refused VALUE i → is_amount (get_or (rows b) i (row 0 0)) ≡ false
unfolding check
never_an_amount b bytes i e = go (ltb (length b) 8) (sizes_allowed (sizes b)) (eqb (length b) (8 + 5 * (sizes b).rows)) e
  where
    ms : List ℕ
    ms = take (sizes b).rows (drop 8 b)

    vs : List ℕ
    vs = drop (8 + (sizes b).rows) b

    at : NoAmount (rows b) 0 i → is_amount (get_or (rows b) i (row 0 0)) ≡ false
    at (k, same, none_there) = rw (same, zero-add k) none_there

    go : (u v w : Bool)
        → cond u (refused SHORT_FILE 0) (cond (not v) (refused SIZE 0) (cond (not w) (refused LENGTH 0) (check_rows (sizes b) 0 (rows b) first_progress)))
        ≡ refused VALUE i
        → is_amount (get_or (rows b) i (row 0 0)) ≡ false
    go true v w e = absurd (true≢false (cc))
    go false false w e = absurd (true≢false (cc))
    go false true false e = absurd (true≢false (cc))
    go false true true e =
        at (walk_refused (sizes b) 0 (rows b) first_progress (small_values ms vs (all_drop (λ (n : ℕ). ltb n 256) (8 + (sizes b).rows) b bytes)) i e)

-- Under a lower limit

module _ (limit : ℕ) where
  -- check, with this limit on costs and soft weights
  abbrev pub allowed_under : ℕ → ℕ → Row → Bool
  allowed_under F floor x = cond (is_amount x) (leb x.value limit) (value_allowed F floor x)

  abbrev pub on_under : Sizes → ℕ → Row → Progress → (Progress → Answer) → Option Context → Answer
  on_under z i x w go none = refused MARK i
  on_under z i x w go (some c) = cond (allowed_under z.facts w.floor x) (go (next_progress w c x)) (refused VALUE i)

  unfoldable pub rows_under : Sizes → ℕ → List Row → Progress → Answer
  rows_under z i [] w = finish z i w
  rows_under z i (x ∷ xs) w = on_under z i x w (rows_under z (i + 1) xs) (follow w.context x.mark)

  unfoldable pub check_under : List ℕ → Answer
  check_under b =
      cond (ltb (length b) 8) (refused SHORT_FILE 0)
      (cond (not (sizes_allowed (sizes b))) (refused SIZE 0)
      (cond (not (eqb (length b) (8 + 5 * (sizes b).rows))) (refused LENGTH 0)
      (rows_under (sizes b) 0 (rows b) first_progress)))

  module _ (lower : limit ≤ MAX_AMOUNT) where
    -- u says whether the row's value is an amount, r what else is asked of it
    still_allowed : (v : ℕ) (u r : Bool) → cond u (leb v limit) (cond u (leb v MAX_AMOUNT) r) ≡ true → cond u (leb v MAX_AMOUNT) r ≡ true
    still_allowed v true r e = le-leb v MAX_AMOUNT (omega (arith, leb-true v limit e))
    still_allowed v false r e = e

    rows_accepted : (z : Sizes) (i : ℕ) (xs : List Row) (w : Progress) (z' : Sizes) → rows_under z i xs w ≡ accepted z' → check_rows z i xs w ≡ accepted z'
    unfolding check_rows rows_under
    rows_accepted z i [] w z' e = e
    rows_accepted z i (x ∷ xs) w z' e = go (follow w.context x.mark) e (λ v. rows_accepted z (i + 1) xs v z')
      where
        allowed : (u : Bool) → allowed_under z.facts w.floor x ≡ u → (a : Answer) → cond u a (refused VALUE i) ≡ accepted z'
            → (value_allowed z.facts w.floor x ≡ true) × (a ≡ accepted z')
        allowed true v a e = (still_allowed x.value (is_amount x) _ v, e)
        allowed false v a e = absurd (true≢false (cc))

        go : (o : Option Context) → on_under z i x w (rows_under z (i + 1) xs) o ≡ accepted z'
            → ((v : Progress) → rows_under z (i + 1) xs v ≡ accepted z' → check_rows z (i + 1) xs v ≡ accepted z')
            → check_on z i x w (check_rows z (i + 1) xs) o ≡ accepted z'
        go none e rest = e
        go (some c) e rest =
            let both = allowed (allowed_under z.facts w.floor x) refl (rows_under z (i + 1) xs (next_progress w c x)) e in
            rw both.0 (rest (next_progress w c x) both.1)

    -- a file that is accepted under the limit is accepted, with the same sizes
    pub still_accepted : (b : List ℕ) (z : Sizes) → check_under b ≡ accepted z → check b ≡ accepted z
    unfolding check check_under
    still_accepted b z e = go (ltb (length b) 8) (not (sizes_allowed (sizes b))) (not (eqb (length b) (8 + 5 * (sizes b).rows))) e
      where
        go : (u v w : Bool)
            → cond u (refused SHORT_FILE 0) (cond v (refused SIZE 0) (cond w (refused LENGTH 0) (rows_under (sizes b) 0 (rows b) first_progress))) ≡ accepted z
            → cond u (refused SHORT_FILE 0) (cond v (refused SIZE 0) (cond w (refused LENGTH 0) (check_rows (sizes b) 0 (rows b) first_progress))) ≡ accepted z
        go true v w e = e
        go false true w e = e
        go false false true e = e
        go false false false e = rows_accepted (sizes b) 0 (rows b) first_progress z e

-- Under the greatest amount

same_test : (u v r : Bool) → cond u v (cond u v r) ≡ cond u v r
same_test true v r = refl
same_test false v r = refl

same_rows : (z : Sizes) (i : ℕ) (xs : List Row) (w : Progress) → rows_under MAX_AMOUNT z i xs w ≡ check_rows z i xs w
unfolding check_rows rows_under
same_rows z i [] w = refl
same_rows z i (x ∷ xs) w = go (follow w.context x.mark) (λ v. same_rows z (i + 1) xs v)
  where
    go : (o : Option Context) → ((v : Progress) → rows_under MAX_AMOUNT z (i + 1) xs v ≡ check_rows z (i + 1) xs v)
        → on_under MAX_AMOUNT z i x w (rows_under MAX_AMOUNT z (i + 1) xs) o ≡ check_on z i x w (check_rows z (i + 1) xs) o
    go none rest = refl
    go (some c) rest =
        ap₂ (λ (u : Bool) (a : Answer). cond u a (refused VALUE i)) (same_test (is_amount x) (leb x.value MAX_AMOUNT) _) (rest (next_progress w c x))

-- it is check: nothing but the limit differs
pub under_greatest : (b : List ℕ) → check_under MAX_AMOUNT b ≡ check b
unfolding check check_under
under_greatest b =
    ap (λ (a : Answer). cond (ltb (length b) 8) (refused SHORT_FILE 0)
    (cond (not (sizes_allowed (sizes b))) (refused SIZE 0) (cond (not (eqb (length b) (8 + 5 * (sizes b).rows))) (refused LENGTH 0) a)))
    (same_rows (sizes b) 0 (rows b) first_progress)

-- Costs

-- of an action
cheap : (l : List Action) → T (all action_spellable l) → (k : ℕ) → (get_or l k no_action).cost ≤ MAX_AMOUNT
cheap [] h k = omega arith
cheap (a ∷ l) h zero = leb→le a.cost MAX_AMOUNT (search tests)
cheap (a ∷ l) h (suc k) = cheap l (search tests) k

-- and so of a plan
pub cost_bound : (t : Task) → T (spellable t) → (p : List ℕ) → cost t p ≤ MAX_AMOUNT * length p
cost_bound t s [] = omega arith
cost_bound t s (k ∷ ks) =
    let one : (action_at t k).cost ≤ MAX_AMOUNT = cheap t.actions (search tests) k in
    omega (arith, one, cost_bound t s ks)
