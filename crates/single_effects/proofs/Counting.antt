-- The choices of a condition, counted row by row.
use mathlib.Core.Path.{◌≡◌, refl, sym, ap, ◌∙◌, subst⁻¹}
use mathlib.Core.Bool.{Bool, true, false, cond}
use mathlib.Core.List.{List, [], ◌∷◌, ◌++◌, map}
use Prim.Native.Nat.{ℕ, suc, ◌+◌, ◌*◌, ◌≤◌, ◌<◌}
use native.Mathlib.Nat.{add-zero, mul-le-mul_right}
use native.Mathlib.Omega.{arith}
use lib.ListN.{length, drop, get_or}
use Rattle.task.specs.Marks.{CLAUSE, HOLDS, LACKS}
use Rattle.meaning.specs.Task.{Clause, Condition}
use Rattle.task.specs.TaskRows.{Row, row, literal_row, condition_rows}
use Rattle.task.specs.File.{has_mark, paired}
use Rattle.task.specs.Rows.{between, run, run_at, Stops, value_at}
use Rattle.task.proofs.Reading.{fold, fold-append, run-stop, run_through, goes_on, stops_at, ends_at}
use Rattle.layout.proofs.Ends.{condition_between}
use Rattle.singling.specs.Capped.{capped, count_on}
use Rattle.single_effects.specs.Shapes.{untallied, tallied, counted, counted_at, Few}
use Rattle.single_effects.specs.declared.shapes.Tally.{Tally}
use Rattle.single_effects.specs.declared.shapes.Counted.{Counted}

-- Numbers that stay small

pub product_fits : (t : Tally) → Few t 12000 → t.choices * t.literals < 18446744073709551616
product_fits t f =
    let few : t.choices * t.literals ≤ 65 * t.literals = mul-le-mul_right t.literals f.few_choices in
    omega (arith, f.few_literals)

pub few_on : (t : Tally) (x : Row) (i : ℕ) → Few t i → Few (tallied t x) (i + 1)
few_on t x i f = go (has_mark CLAUSE x)
  where
    go : (b : Bool)
        → Few (cond b (record { choices = capped (t.choices * t.literals); literals = 0; clauses = t.clauses + 1 })
        (record { choices = t.choices; literals = t.literals + 1; clauses = t.clauses })) (i + 1)
    go true = record { few_choices = omega arith; few_literals = omega arith; few_clauses = omega (arith, f.few_clauses) }
    go false = record { few_choices = f.few_choices; few_literals = omega (arith, f.few_literals); few_clauses = omega (arith, f.few_clauses) }

pub fewer : (t : Tally) (i j : ℕ) → i ≤ j → Few t i → Few t j
fewer t i j h f = record { few_choices = f.few_choices; few_literals = omega (arith, f.few_literals); few_clauses = omega (arith, f.few_clauses) }

-- The rows of a condition

literal_tallied : (b : Bool) (n : ℕ) (t : Tally)
    → tallied t (row (cond b HOLDS LACKS) n) ≡ record { choices = t.choices; literals = t.literals + 1; clauses = t.clauses }
literal_tallied true n t = refl
literal_tallied false n t = refl

literals-tallied : (k : Clause) (t : Tally)
    → fold tallied t (map literal_row k) ≡ record { choices = t.choices; literals = t.literals + length k; clauses = t.clauses }
literals-tallied [] t = λ z. record { choices = t.choices; literals = sym (add-zero t.literals) z; clauses = t.clauses }
literals-tallied (l ∷ k) t =
    let n : t.literals + 1 + length k ≡ t.literals + suc (length k) = omega arith in
    ap (λ (u : Tally). fold tallied u (map literal_row k)) (literal_tallied l.holds l.fact t)
    ∙ literals-tallied k (record { choices = t.choices; literals = t.literals + 1; clauses = t.clauses })
    ∙ λ z. record { choices = t.choices; literals = n z; clauses = t.clauses }

clauses_tallied : (c : Condition) (t : Tally) (i : ℕ)
    → counted (fold tallied t (condition_rows c)) i
    ≡ record { choices = count_on (capped (t.choices * t.literals)) c; clauses = t.clauses + length c; next = i }
clauses_tallied [] t i =
    λ z. record { choices = capped (t.choices * t.literals); clauses = sym (add-zero t.clauses) z; next = i }
clauses_tallied (k ∷ c) t i =
    let begun : Tally = record { choices = capped (t.choices * t.literals); literals = 0; clauses = t.clauses + 1 } in
    let whole : Tally = record { choices = capped (t.choices * t.literals); literals = 0 + length k; clauses = t.clauses + 1 } in
    let m : 0 + length k ≡ length k = omega arith in
    let n : t.clauses + 1 + length c ≡ t.clauses + suc (length c) = omega arith in
    ap (λ (u : Tally). counted u i) (fold-append tallied begun (map literal_row k) (condition_rows c)
    ∙ ap (λ (u : Tally). fold tallied u (condition_rows c)) (literals-tallied k begun))
    ∙ clauses_tallied c whole i
    ∙ λ z. record { choices = count_on (capped (capped (t.choices * t.literals) * m z)) c; clauses = n z; next = i }

-- where a condition stands
pub condition_counted : (ms vs : List ℕ) (i : ℕ) (c : Condition) (xs : List Row) → drop i (paired ms vs) ≡ condition_rows c ++ xs
    → Stops (between CLAUSE LACKS) xs
    → counted_at ms vs i ≡ record { choices = count_on 1 c; clauses = length c; next = i + length (condition_rows c) }
unfolding run_at
condition_counted ms vs i c xs e s =
    let n : 0 + length c ≡ length c = omega arith in
    ap (run tallied (between CLAUSE LACKS) counted untallied i) e
    ∙ run_through tallied (between CLAUSE LACKS) counted untallied i (condition_rows c) xs (condition_between c)
    ∙ run-stop tallied (between CLAUSE LACKS) counted (fold tallied untallied (condition_rows c)) (i + length (condition_rows c)) xs s
    ∙ clauses_tallied c untallied (i + length (condition_rows c))
    ∙ λ z. record { choices = count_on 1 c; clauses = n z; next = i + length (condition_rows c) }

-- the loop: what is left to count from row i on is what is asked
pub record Counting (ms : List ℕ) (from : ℕ) (t : Tally) (i : ℕ) : Type 0 where
  pub begun : from ≤ i
  pub inside : i ≤ length ms
  pub few : Few t i
  pub same : (vs : List ℕ) → run_at tallied (between CLAUSE LACKS) counted t ms vs i ≡ counted_at ms vs from

module _ (ms : List ℕ) (from : ℕ) (t : Tally) (i : ℕ) (N : Counting ms from t i) where
  pub counting_on : i < length ms → between CLAUSE LACKS (get_or ms i 0) ≡ true
      → (u : Tally) → ((v : ℕ) → u ≡ tallied t (row (get_or ms i 0) v)) → Counting ms from u (i + 1)
  counting_on h b u e =
      record {
        begun = omega (arith, N.begun);
        inside = omega arith;
        few = subst⁻¹ (λ (w : Tally). Few w (i + 1)) (e 0) (few_on t (row (get_or ms i 0) 0) i N.few);
        same = λ vs.
            ap (λ (w : Tally). run_at tallied (between CLAUSE LACKS) counted w ms vs (i + 1)) (e (value_at vs i))
            ∙ sym (goes_on tallied (between CLAUSE LACKS) counted t ms vs i h b)
            ∙ N.same vs;
      }

  -- what count_choices promises of its answer r
  abbrev Answered : Counted → Type 0
  Answered r = ((from ≤ r.next) × (r.next ≤ length ms)) × ((vs : List ℕ) → r ≡ counted_at ms vs from)

  answered : (r : Counted) → r ≡ counted t i → ((vs : List ℕ) → run_at tallied (between CLAUSE LACKS) counted t ms vs i ≡ counted t i) → Answered r
  answered r e s =
      let n : r.next ≡ i = ap (λ (x : Counted). x.next) e in
      ((omega (arith, N.begun), omega (arith, N.inside)), λ vs. e ∙ sym (s vs) ∙ N.same vs)

  pub counted_stop : i < length ms → between CLAUSE LACKS (get_or ms i 0) ≡ false → (r : Counted) → r ≡ counted t i → Answered r
  counted_stop h b r e = answered r e (λ vs. stops_at tallied (between CLAUSE LACKS) counted t ms vs i h b)

  pub counted_end : length ms ≤ i → (r : Counted) → r ≡ counted t i → Answered r
  counted_end h r e = answered r e (λ vs. ends_at tallied (between CLAUSE LACKS) counted t ms vs i h)
