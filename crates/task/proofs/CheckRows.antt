-- The row walk without its counters and places: which rows it accepts, and what it counts.
use mathlib.Core.Path.{◌≡◌, refl, sym, ◌∙◌}
use mathlib.Core.Bool.{Bool, true, false, cond, ◌&&◌, true≢false}
use mathlib.Core.List.{List, [], ◌∷◌}
use mathlib.Core.Option.{Option, none, some}
use Prim.Native.Nat.{ℕ, ◌+◌}
use native.Mathlib.Omega.{arith}
use lib.Dec.{T, eqb}
use borrow.Author.Tests.{eq-eqb, eqb-true}
use Rattle.task.specs.Marks.{ACTION, START}
use Rattle.meaning.specs.Task.{Kind, always, sometime, at_end, at_most_once, sometime_before, sometime_after, within, always_within}
use Rattle.task.specs.TaskRows.{opening_mark, row, Row}
use Rattle.task.specs.File.{Sizes, has_mark, is_preference}
use Rattle.task.specs.Check.{accepted, refused, Context, follow, may_end, value_allowed, count, Progress, next_progress, finish, check_on}
use Rattle.task.specs.Check.{check_rows}
use Rattle.task.specs.Spelling.{weight_allowed}
use Rattle.lists.proofs.Tests.{tests, as_true}

-- the least fact that START may name after a row
abbrev pub next_floor : ℕ → Row → ℕ
next_floor floor x = cond (has_mark START x) (x.value + 1) floor

-- the value of a preference's row is its weight
pub weight_value : (F floor : ℕ) (h : Bool) (k : Kind) (v : ℕ) → value_allowed F floor (row (opening_mark h k) v) ≡ weight_allowed h v
weight_value F floor false always v = refl
weight_value F floor false sometime v = refl
weight_value F floor false at_end v = refl
weight_value F floor false at_most_once v = refl
weight_value F floor false sometime_before v = refl
weight_value F floor false sometime_after v = refl
weight_value F floor false (within t) v = refl
weight_value F floor false (always_within t) v = refl
weight_value F floor true always v = refl
weight_value F floor true sometime v = refl
weight_value F floor true at_end v = refl
weight_value F floor true at_most_once v = refl
weight_value F floor true sometime_before v = refl
weight_value F floor true sometime_after v = refl
weight_value F floor true (within t) v = refl
weight_value F floor true (always_within t) v = refl

abbrev pub onward : Bool → (Context → Bool) → Option Context → Bool
onward ok go none = false
onward ok go (some c) = ok && go c

-- the walk over F facts accepts these rows, where `next` says what may follow and `end` whether the rows may end
abbrev pub via : ℕ → List Row → ℕ → Bool → (ℕ → Option Context) → Bool
via F [] floor end next = end
via F (x ∷ xs) floor end next =
    onward (value_allowed F floor x) (λ (c : Context). via F xs (next_floor floor x) (may_end c) (follow c)) (next x.mark)

-- the same in context c
abbrev pub accepts : ℕ → List Row → ℕ → Context → Bool
accepts F xs floor c = via F xs floor (may_end c) (follow c)

abbrev pub tally : (Row → Bool) → List Row → ℕ
tally p [] = 0
tally p (x ∷ xs) = count (p x) (tally p xs)

-- what an accepted walk comes to
pub record Walked (z : Sizes) (w : Progress) (xs : List Row) : Type 0 where
  pub accepting : T (accepts z.facts xs w.floor w.context)
  pub actions : w.actions + tally (has_mark ACTION) xs ≡ z.actions
  pub preferences : w.preferences + tally is_preference xs ≡ z.preferences

count_move : (b : Bool) (m n : ℕ) → count b m + n ≡ m + count b n
count_move true m n = omega arith
count_move false m n = refl

finish-accepted : (z : Sizes) (i : ℕ) (w : Progress) (z' : Sizes) → finish z i w ≡ accepted z' → (z' ≡ z) × Walked z w []
finish-accepted z i w z' e =
    go (may_end w.context) (eqb w.actions z.actions) (eqb w.preferences z.preferences) refl refl refl e
  where
    go : (a b c : Bool) → may_end w.context ≡ a → eqb w.actions z.actions ≡ b → eqb w.preferences z.preferences ≡ c
        → cond a (cond (b && c) (accepted z) (refused 6 i)) (refused 4 i) ≡ accepted z' → (z' ≡ z) × Walked z w []
    go true true true p q r h =
        let a : w.actions ≡ z.actions = eqb-true w.actions z.actions q in
        let b : w.preferences ≡ z.preferences = eqb-true w.preferences z.preferences r in
        (cc, record { accepting = rw p tt; actions = omega arith; preferences = omega arith })
    go true true false p q r h = absurd (true≢false (cc))
    go true false c p q r h = absurd (true≢false (cc))
    go false b c p q r h = absurd (true≢false (cc))

pub walk_accepted : (z : Sizes) (i : ℕ) (xs : List Row) (w : Progress) (z' : Sizes) → check_rows z i xs w ≡ accepted z'
    → (z' ≡ z) × Walked z w xs
unfolding check_rows
walk_accepted z i [] w z' e = finish-accepted z i w z' e
walk_accepted z i (x ∷ xs) w z' e =
    go (follow w.context x.mark) refl e (λ c. walk_accepted z (i + 1) xs (next_progress w c x) z')
  where
    Rest : Type 0
    Rest = (c : Context) → check_rows z (i + 1) xs (next_progress w c x) ≡ accepted z' → (z' ≡ z) × Walked z (next_progress w c x) xs

    passed : (c : Context) → follow w.context x.mark ≡ some c → (b : Bool) → value_allowed z.facts w.floor x ≡ b
        → cond b (check_rows z (i + 1) xs (next_progress w c x)) (refused 5 i) ≡ accepted z' → Rest → (z' ≡ z) × Walked z w (x ∷ xs)
    passed c p true q h rest =
        let r : (z' ≡ z) × Walked z (next_progress w c x) xs = rest c h in (
          r.0,
          record {
            accepting = rw (p, q) r.1.accepting;
            actions = sym (count_move (has_mark ACTION x) w.actions (tally (has_mark ACTION) xs)) ∙ r.1.actions;
            preferences = sym (count_move (is_preference x) w.preferences (tally is_preference xs)) ∙ r.1.preferences;
          },
        )
    passed c p false q h rest = absurd (true≢false (cc))

    go : (o : Option Context) → follow w.context x.mark ≡ o → check_on z i x w (check_rows z (i + 1) xs) o ≡ accepted z'
        → Rest → (z' ≡ z) × Walked z w (x ∷ xs)
    go none p h rest = absurd (true≢false (cc))
    go (some c) p h rest = passed c p (value_allowed z.facts w.floor x) refl h rest

pub walked_accepted : (z : Sizes) (i : ℕ) (xs : List Row) (w : Progress) → Walked z w xs → check_rows z i xs w ≡ accepted z
unfolding check_rows
walked_accepted z i [] w r =
    rw (
      as_true (may_end w.context) r.accepting,
      eq-eqb w.actions z.actions (omega arith),
      eq-eqb
          w.preferences z.preferences (omega arith),
    )
walked_accepted z i (x ∷ xs) w r =
    go (follow w.context x.mark) refl r.accepting (λ c. walked_accepted z (i + 1) xs (next_progress w c x))
  where
    Rest : Type 0
    Rest = (c : Context) → Walked z (next_progress w c x) xs → check_rows z (i + 1) xs (next_progress w c x) ≡ accepted z

    go : (o : Option Context) → follow w.context x.mark ≡ o
        → T (onward (value_allowed z.facts w.floor x) (accepts z.facts xs (next_floor w.floor x)) o)
        → Rest → check_on z i x w (check_rows z (i + 1) xs) o ≡ accepted z
    go none p h rest = absurd h
    go (some c) p h rest =
        rw (as_true (value_allowed z.facts w.floor x) (search tests))
        (rest c (record {
          accepting = search tests;
          actions = count_move (has_mark ACTION x) w.actions (tally (has_mark ACTION) xs) ∙ r.actions;
          preferences = count_move (is_preference x) w.preferences (tally is_preference xs) ∙ r.preferences;
        }))
