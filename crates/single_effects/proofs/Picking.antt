-- A choice of a condition, clause by clause: the number's next digit says which literal.
use mathlib.Core.Path.{◌≡◌, refl, sym, ap, ◌∙◌, subst, subst⁻¹}
use mathlib.Core.List.{List, [], ◌∷◌, ◌++◌, map, append_assoc}
use Prim.Native.Nat.{ℕ, zero, suc, ◌+◌, ◌-◌, ◌*◌, ◌/◌, ◌%◌, ◌≤◌, ◌<◌}
use native.Mathlib.Nat.{zero-mul, mul-zero, mul-div_cancel_left, div-lt_iff_lt-mul, div-one, div-eq_of_lt, mod-lt, mod-eq_of_lt}
use native.Mathlib.Omega.{arith}
use lib.Dec.{T}
use lib.ListN.{length, drop, get_or, length-append, length-map}
use lib.Seq.{drop-drop}
use Rattle.lists.specs.Lists.{all}
use Rattle.lists.proofs.Tests.{all_map}
use Rattle.task.specs.Marks.{CLAUSE, HOLDS, LACKS}
use Rattle.meaning.specs.Task.{Clause, Condition}
use Rattle.task.specs.TaskRows.{Row, row, literal_row, condition_rows}
use Rattle.task.specs.File.{paired}
use Rattle.task.specs.Rows.{between, Stops, value_at}
use Rattle.task.proofs.Passing.{literal_passes}
use Rattle.task.proofs.Positions.{drop_next, drop_after}
use Rattle.task.proofs.Reading.{passes, first_at}
use Rattle.layout.specs.Sides.{end_at}
use Rattle.layout.proofs.Ends.{end_after}
use Rattle.writer.specs.declared.Cursor.{Cursor}
use Rattle.writer.proofs.Putting.{Onward, Kept}
use Rattle.spelling.proofs.TaskSpelled.{narrower}
use Rattle.singling.specs.Singled.{choice_count}
use Rattle.singling.specs.ByNumber.{no_literal}
use Rattle.single_effects.specs.Effects.{digit_of, Dividing, Choosable, picked_rows}
use Rattle.single_effects.specs.declared.choosing.Pick.{Pick}
use Rattle.single_effects.specs.declared.choosing.Digit.{Digit}

-- The literal at a place of a clause

literal_there : (k : Clause) (d : ℕ) (ys : List Row) → d < length k
    → drop d (map literal_row k ++ ys) ≡ literal_row (get_or k d no_literal) ∷ drop (suc d) (map literal_row k ++ ys)
literal_there [] d ys h = absurd (omega arith)
literal_there (l ∷ k) zero ys h = refl
literal_there (l ∷ k) (suc d) ys h = literal_there k d ys (omega arith)

literals_pass : (k : Clause) → T (all (passes (between HOLDS LACKS)) (map literal_row k))
literals_pass = all_map (passes (between HOLDS LACKS)) literal_row (literal_passes (passes (between HOLDS LACKS)) (λ v. tt) (λ v. tt))

-- One digit

-- of a clause of one literal nothing is to choose
pub one_literal : (p : Pick) (n : ℕ) → n ≡ 1 → p.number < p.choices → record { literal = 0; later = p } ≡ digit_of p n
one_literal p n e h =
    let all_later : p.choices ≡ p.choices / n = sym (ap (λ (m : ℕ). p.choices / m) e ∙ div-one p.choices) in
    λ z. record {
      literal = (sym (div-eq_of_lt h) ∙ ap (λ (m : ℕ). p.number / m) all_later) z;
      later = record { choices = all_later z; number = (sym (mod-eq_of_lt h) ∙ ap (λ (m : ℕ). p.number % m) all_later) z };
    }

-- One turn

-- the choices of the clauses after the one that ends before row `end`
abbrev later_of : ℕ → Pick → ℕ → ℕ
later_of i p end = p.choices / (end - i - 1)

-- the row of the literal
abbrev row_of : ℕ → Pick → ℕ → ℕ
row_of i p end = i + 1 + p.number / later_of i p end

-- the clause that row i opens ends before row `end`, and d is the number's digit for it
pub record Turn (ms vs : List ℕ) (i to : ℕ) (c : Condition) (j end : ℕ) (d : Digit) : Type 0 where
  pub rest : Condition
  pub goes : i < end
  pub within : end ≤ to
  pub inside : i + 1 + d.literal < length ms
  pub onward : Choosable ms vs (record { from = end; to = to }) d.later rest
  pub written : (row CLAUSE 0 ∷ row (get_or ms (i + 1 + d.literal) 0) (value_at vs (i + 1 + d.literal)) ∷ []) ++ picked_rows rest d.later.number
      ≡ picked_rows c j

module _ (ms vs : List ℕ) (i to : ℕ) (p : Pick) where
  at_end : (c : Condition) → Choosable ms vs (record { from = i; to = to }) p c → to ≤ i → c ≡ []
  at_end [] C h = refl
  at_end (k ∷ c) C h = absurd (omega (arith, C.condition.long, length-append (map literal_row k) (condition_rows c)))

  -- nothing is left to pick
  pub none_left : (c : Condition) → Choosable ms vs (record { from = i; to = to }) p c → to ≤ i → picked_rows c p.number ≡ []
  none_left c C h = ap (λ (d : Condition). picked_rows d p.number) (at_end c C h)

  module _ (end : ℕ) (e : end ≡ end_at HOLDS LACKS ms (i + 1)) (h : i < to) where
    module _ (k : Clause) (c : Condition) (C : Choosable ms vs (record { from = i; to = to }) p (k ∷ c)) where
      abbrev ys : List Row
      ys = condition_rows c ++ drop to (paired ms vs)

      literals_there : drop (i + 1) (paired ms vs) ≡ map literal_row k ++ ys
      literals_there =
          drop_next i (paired ms vs) (row CLAUSE 0) (map literal_row k ++ ys)
          (C.condition.there ∙ ap (λ (l : List Row). row CLAUSE 0 ∷ l) (append_assoc (map literal_row k) (condition_rows c) (drop to (paired ms vs))))

      clear : (d : Condition) → Stops (between HOLDS LACKS) (condition_rows d ++ drop to (paired ms vs))
      clear [] = narrower CLAUSE LACKS HOLDS LACKS (omega arith) (omega arith) (drop to (paired ms vs)) C.condition.stops
      clear (j ∷ d) = refl

      long : length (map literal_row k) ≡ length k
      long = length-map k literal_row

      end_is : end ≡ i + 1 + length k
      end_is =
          e ∙ end_after HOLDS LACKS ms (i + 1) vs (map literal_row k) ys literals_there (literals_pass k) (clear c)
          ∙ ap (λ (n : ℕ). i + 1 + n) long

      many : end - i - 1 ≡ length k
      many = omega (arith, end_is)

      to_is : to ≡ end + length (condition_rows c)
      to_is = omega (arith, C.condition.long, length-append (map literal_row k) (condition_rows c), long, end_is)

      some_literals : 0 < length k
      some_literals = go k refl
        where
          go : (l : Clause) → k ≡ l → 0 < length l
          go [] q = absurd (omega (arith, C.one_of, C.all_of, ap (λ (l : Clause). length l * choice_count c) q, zero-mul (choice_count c)))
          go (l ∷ ls) q = omega arith

      later_is : later_of i p end ≡ choice_count c
      later_is = (λ z. C.all_of z / many z) ∙ mul-div_cancel_left (choice_count c) some_literals

      some_later : 0 < choice_count c
      some_later = go (choice_count c) refl
        where
          go : (n : ℕ) → choice_count c ≡ n → 0 < n
          go zero q = absurd (omega (arith, C.one_of, C.all_of, ap (λ (n : ℕ). length k * n) q, mul-zero (length k)))
          go (suc n) q = omega arith

      abbrev d : ℕ
      d = p.number / later_of i p end

      digit : d < length k
      digit = subst (λ (n : ℕ). p.number / n < length k) (sym later_is) ((div-lt_iff_lt-mul some_later).1 (omega (arith, C.one_of, C.all_of)))

      at_inside : row_of i p end < length ms
      at_inside = omega (arith, digit, end_is, to_is, C.condition.inside)

      at_is : row (get_or ms (row_of i p end) 0) (value_at vs (row_of i p end)) ≡ literal_row (get_or k d no_literal)
      at_is = first_at ms vs (row_of i p end) at_inside (sym (drop-drop d (i + 1) (paired ms vs)) ∙ ap (drop d) literals_there ∙ literal_there k d ys digit)

      turned : Turn ms vs i to (k ∷ c) p.number end (digit_of p (end - i - 1))
      turned =
          record {
            rest = c;
            goes = omega (arith, end_is);
            within = omega (arith, to_is);
            inside = at_inside;
            onward = record {
              condition = record {
                there = ap (λ (n : ℕ). drop n (paired ms vs)) end_is ∙ ap (λ (n : ℕ). drop (i + 1 + n) (paired ms vs)) (sym long) ∙ drop_after (i + 1) (paired ms vs) (map literal_row k) ys literals_there;
                stops = C.condition.stops;
                long = to_is;
                inside = C.condition.inside;
              };
              all_of = later_is;
              one_of = mod-lt p.number (omega (arith, later_is, some_later));
            };
            written = λ z. row CLAUSE 0 ∷ literal_or z ∷ picked_rows c (p.number % later_is z);
          }
        where
          literal_or : row (get_or ms (row_of i p end) 0) (value_at vs (row_of i p end)) ≡ literal_row (get_or k (p.number / choice_count c) no_literal)
          literal_or = at_is ∙ ap (λ (n : ℕ). literal_row (get_or k (p.number / n) no_literal)) later_is

    pub goes_on : (c : Condition) → Choosable ms vs (record { from = i; to = to }) p c → i + 2 ≤ end
    goes_on [] C = absurd (omega (arith, C.condition.long))
    goes_on (k ∷ c) C = omega (arith, end_is k c C, some_literals k c C)

    pub dividing : length ms ≤ 12000 → (c : Condition) → Choosable ms vs (record { from = i; to = to }) p c → Dividing p (end - i - 1)
    dividing few [] C = absurd (omega (arith, C.condition.long))
    dividing few (k ∷ c) C =
        record {
          some_literals = omega (arith, many k c C, some_literals k c C);
          few_literals = omega (arith, to_is k c C, C.condition.inside);
          some_later = omega (arith, later_is k c C, some_later k c C);
          one_of = C.one_of;
        }

    pub turn : (c : Condition) → Choosable ms vs (record { from = i; to = to }) p c → (d : Digit) → d ≡ digit_of p (end - i - 1)
        → Turn ms vs i to c p.number end d
    turn [] C d q = absurd (omega (arith, C.condition.long))
    turn (k ∷ c) C d q = subst⁻¹ (Turn ms vs i to (k ∷ c) p.number end) q (turned k c C)

-- the loop: what is left to pick makes up the rows xs
pub record Picking (b : List ℕ) (c : Cursor) (xs : List Row) (ms vs : List ℕ) (i to : ℕ) (p : Pick) (out : List ℕ) (k : Cursor) : Type 0 where
  pub left : Condition
  pub choosable : Choosable ms vs (record { from = i; to = to }) p left
  pub so_far : Kept b out k
  pub onward : Onward b c xs out k (picked_rows left p.number)
