-- What the rows after each context spell, and how a preference is built from its row.
use mathlib.Core.Path.{◌≡◌, refl, subst}
use mathlib.Core.Bool.{Bool, true, false, cond, ◌&&◌, ◌||◌}
use mathlib.Core.List.{List, [], ◌∷◌, ◌++◌, map, append_assoc, append-nil}
use mathlib.Core.Option.{Option}
use Prim.Native.Nat.{ℕ, zero, suc, ◌+◌, ◌-◌, ◌≤◌}
use native.Mathlib.Omega.{arith}
use lib.Dec.{T, leb}
use Rattle.task.specs.Marks.{ADD, DELETE, GOAL, START}
use Rattle.task.specs.Marks.{AT_MOST_ONCE, SOMETIME_BEFORE, SOMETIME_AFTER, SECOND, STEPS}
use Rattle.lists.specs.Lists.{all, concat_map, is_empty}
use Rattle.meaning.specs.Task.{Kind, always, sometime, at_end, at_most_once, sometime_before, sometime_after, within, always_within, Condition}
use Rattle.meaning.specs.Task.{two_sided, facts_below}
use Rattle.task.specs.TaskRows.{Row, row, kind_mark, opening_mark, steps_rows, literal_row, condition_rows, effect_rows, action_rows, preference_rows}
use Rattle.task.specs.Check.{Place, goal, precondition, effect, last_side, first_side, Context, opening, open_condition, open_clause, after_literal}
use Rattle.task.specs.Check.{after_add, after_delete, open_within, open_always_within}
use Rattle.task.specs.Check.{value_allowed}
use Rattle.task.specs.Spelling.{kind_spellable, weight_allowed}
use Rattle.lists.proofs.Tests.{tests}
use Rattle.task.proofs.Pieces.{literals_ok, clause_ok, condition_ok, effect_ok, action_ok, preference_ok, start_ok}
use Rattle.task.proofs.CheckRows.{weight_value, onward}
use Rattle.task.specs.Limits.{MAX_DEADLINE}

-- xs spells an a that passes the test, and after it what K asks
abbrev pub Then : {A : Type 0} → (A → List Row) → (A → Bool) → (List Row → Type 0) → List Row → Type 0
Then {A} spell ok K xs = (a : A) × (rest : List Row) × (xs ≡ spell a ++ rest) × T (ok a) × K rest

module _ (F : ℕ) where
  abbrev pub Preferences : List Row → Type 0
  Preferences = Then (concat_map preference_rows) (all (preference_ok F)) (λ (xs : List Row). xs ≡ [])

  abbrev pub Actions : List Row → Type 0
  Actions = Then (concat_map action_rows) (all (action_ok F)) Preferences

  abbrev pub Effects : List Row → Type 0
  Effects = Then (concat_map effect_rows) (all (effect_ok F)) Actions

  abbrev pub Deletes : List Row → Type 0
  Deletes = Then (map (row DELETE)) (facts_below F) Effects

  abbrev pub Adds : List Row → Type 0
  Adds = Then (map (row ADD)) (facts_below F) Deletes

  abbrev pub Holding : (List Row → Type 0) → List Row → Type 0
  Holding = Then condition_rows (condition_ok F)

  -- the rest of a place after its condition
  abbrev pub RestAfter : Place → List Row → Type 0
  RestAfter goal = Actions
  RestAfter precondition = Effects
  RestAfter effect = Adds
  RestAfter last_side = Preferences
  RestAfter first_side = λ (xs : List Row). (rest : List Row) × (xs ≡ row SECOND 0 ∷ rest) × Holding Preferences rest

  -- the rest of a clause, of no literal or more, and what is after it
  abbrev pub Literals : Place → List Row → Type 0
  Literals p = Then (map literal_row) (literals_ok F) (Holding (RestAfter p))

  -- a clause's literals, one or more, and what is after them
  abbrev pub WholeClause : Place → List Row → Type 0
  WholeClause p = Then (map literal_row) (clause_ok F) (Holding (RestAfter p))

  -- GOAL, its condition, and the rest of the task
  abbrev pub Goal : List Row → Type 0
  Goal xs = (rest : List Row) × (xs ≡ row GOAL 0 ∷ rest) × Holding Actions rest

  -- STEPS, and what is after it
  abbrev pub Timed : Place → List Row → Type 0
  Timed p xs = (t : ℕ) × (rest : List Row) × (xs ≡ row STEPS t ∷ rest) × T (leb t MAX_DEADLINE) × Holding (RestAfter p) rest

  -- what rows spell that are accepted in a context
  abbrev pub Spelled : Context → ℕ → List Row → Type 0
  Spelled opening floor = Then (map (row START)) (start_ok F floor) Goal
  Spelled (open_condition p) floor = Holding (RestAfter p)
  Spelled (open_clause p) floor = WholeClause p
  Spelled (after_literal p) floor = Literals p
  Spelled after_add floor = Adds
  Spelled after_delete floor = Deletes
  Spelled open_within floor = Timed last_side
  Spelled open_always_within floor = Timed first_side

-- Building: nothing of a kind, or one more

module _ {A : Type 0} (spell : A → List Row) (ok : A → Bool) (K : List Row → Type 0) where
  pub stop : (xs : List Row) → K xs → Then (concat_map spell) (all ok) K xs
  stop xs k = ([], xs, refl, tt, k)

  pub more : (xs : List Row) → Then spell ok (Then (concat_map spell) (all ok) K) xs → Then (concat_map spell) (all ok) K xs
  more xs (a, rest, e, t, (l, rest', e', t', k)) =
      (a ∷ l, rest', cc (append_assoc (spell a) (concat_map spell l) rest'), search tests, k)

-- a row whose mark is known
pub marked : (n : ℕ) (x : Row) → x.mark ≡ n → x ≡ row n x.value
marked n x e = λ i. record { mark = e i; value = x.value }

-- the two outcomes of a cond
pub split : {R : Type 0} (ok : Bool) (go : Context → Bool) (b : Bool) (o₁ o₂ : Option Context) → T (onward ok go (cond b o₁ o₂))
    → (T b → T (onward ok go o₁) → R) → (T (onward ok go o₂) → R) → R
split ok go true o₁ o₂ t f g = f tt t
split ok go false o₁ o₂ t f g = g t

-- Marks of preferences

-- a kind of mark m that has no steps
abbrev pub Untimed : ℕ → Type 0
Untimed m = (k : Kind) × (m ≡ kind_mark k) × (steps_rows k ≡ []) × T (kind_spellable k)

pub kind_from : (m : ℕ) → 10 ≤ m → m ≤ 15 → Untimed m
kind_from m low high = go (m - 10) (omega arith)
  where
    go : (d : ℕ) → m ≡ d + 10 → Untimed m
    go zero e = (always, e, refl, tt)
    go (suc zero) e = (sometime, e, refl, tt)
    go (suc (suc zero)) e = (at_end, e, refl, tt)
    go (suc (suc (suc zero))) e = (at_most_once, e, refl, tt)
    go (suc (suc (suc (suc zero)))) e = (sometime_before, e, refl, tt)
    go (suc (suc (suc (suc (suc zero))))) e = (sometime_after, e, refl, tt)
    go (suc (suc (suc (suc (suc (suc d)))))) e = absurd (omega arith)

pub one_sided_mark : (k : Kind) → T (leb (kind_mark k) AT_MOST_ONCE) → two_sided k ≡ false
one_sided_mark always t = refl
one_sided_mark sometime t = refl
one_sided_mark at_end t = refl
one_sided_mark at_most_once t = refl
one_sided_mark sometime_before t = absurd t
one_sided_mark sometime_after t = absurd t
one_sided_mark (within n) t = absurd t
one_sided_mark (always_within n) t = absurd t

pub two_sided_mark : (k : Kind) → T (leb SOMETIME_BEFORE (kind_mark k) && leb (kind_mark k) SOMETIME_AFTER) → two_sided k ≡ true
two_sided_mark always t = absurd t
two_sided_mark sometime t = absurd t
two_sided_mark at_end t = absurd t
two_sided_mark at_most_once t = absurd t
two_sided_mark sometime_before t = refl
two_sided_mark sometime_after t = refl
two_sided_mark (within n) t = absurd t
two_sided_mark (always_within n) t = absurd t

single_spelled : (x : Row) (xs ys : List Row) (h : Bool) (k : Kind) (φ : Condition) (rest : List Row) → x.mark ≡ opening_mark h k
    → two_sided k ≡ false
    → xs ≡ steps_rows k ++ ys → ys ≡ condition_rows φ ++ rest
    → x ∷ xs ≡ preference_rows (record { kind = k; hard = h; weight = x.value; first = φ; second = [] }) ++ rest
single_spelled x xs ys h k φ rest e side e₀ e₁ =
    rw (side, append-nil (condition_rows φ), append_assoc (steps_rows k) (condition_rows φ) rest) (cc (marked (opening_mark h k) x e))

double_spelled : (x : Row) (xs ys : List Row) (h : Bool) (k : Kind) (φ ψ : Condition) (mid rest : List Row) → x.mark ≡ opening_mark h k
    → two_sided k ≡ true
    → xs ≡ steps_rows k ++ ys → ys ≡ condition_rows φ ++ mid → mid ≡ row SECOND 0 ∷ (condition_rows ψ ++ rest)
    → x ∷ xs ≡ preference_rows (record { kind = k; hard = h; weight = x.value; first = φ; second = ψ }) ++ rest
double_spelled x xs ys h k φ ψ mid rest e side e₀ e₁ e₂ =
    rw (
      side,
      append_assoc (steps_rows k) (condition_rows φ ++ row SECOND 0 ∷ condition_rows ψ) rest,
      append_assoc (condition_rows φ) (row SECOND 0 ∷ condition_rows ψ) rest,
    )
    (cc (marked (opening_mark h k) x e))

module _ (F floor : ℕ) (x : Row) (xs ys : List Row) (h : Bool) (k : Kind) (e : x.mark ≡ opening_mark h k)
    (allowed : T (value_allowed F floor (row (opening_mark h k) x.value))) (timed : T (kind_spellable k)) (e₀ : xs ≡ steps_rows k ++ ys) where
  preference_ok_lem : (φ ψ : Condition) → T (condition_ok F φ) → T (condition_ok F ψ) → T (two_sided k || is_empty ψ)
      → T (preference_ok F (record { kind = k; hard = h; weight = x.value; first = φ; second = ψ }))
  preference_ok_lem φ ψ s t u =
      let w : T (weight_allowed h x.value) = subst T (weight_value F floor h k x.value) allowed in
      search tests

  pub single : two_sided k ≡ false → Holding F (Preferences F) ys → Preferences F (x ∷ xs)
  single side (φ, rest, e₁, ok, qs) =
      more preference_rows (preference_ok F) (λ (xs : List Row). xs ≡ []) (x ∷ xs) (
        record { kind = k; hard = h; weight = x.value; first = φ; second = [] },
        rest,
        single_spelled x xs ys h k φ rest e side e₀ e₁,
        preference_ok_lem φ [] ok tt (rw side tt),
        qs,
      )

  pub double : two_sided k ≡ true → Holding F (RestAfter F first_side) ys → Preferences F (x ∷ xs)
  double side (φ, mid, e₁, ok₁, (mid', e₂, (ψ, rest, e₃, ok₂, qs))) =
      more preference_rows (preference_ok F) (λ (xs : List Row). xs ≡ []) (x ∷ xs) (
        record { kind = k; hard = h; weight = x.value; first = φ; second = ψ },
        rest,
        double_spelled x xs ys h k φ ψ mid rest e side e₀ e₁ (cc),
        preference_ok_lem φ ψ ok₁ ok₂ (rw side tt),
        qs,
      )
