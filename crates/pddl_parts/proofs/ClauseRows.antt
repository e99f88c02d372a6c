-- A clause: one literal alone, or several under `or`; and the clauses of a condition, each after a space.
use mathlib.Core.Path.{◌≡◌, refl, ap, ◌∙◌, subst}
use mathlib.Core.Bool.{Bool, true, false, not, cond, ◌&&◌}
use mathlib.Core.List.{List, [], ◌∷◌, ◌++◌, map}
use Prim.Native.Nat.{ℕ, ◌+◌, ◌<◌}
use native.Mathlib.Omega.{arith}
use lib.Dec.{T}
use lib.ListN.{length, drop, get_or}
use Rattle.lists.specs.Lists.{all}
use Rattle.meaning.specs.Task.{Literal, Clause}
use Rattle.task.specs.TaskRows.{Row, row, literal_row, clause_rows}
use Rattle.task.specs.Marks.{CLAUSE, LACKS}
use Rattle.task.specs.File.{paired}
use Rattle.task.specs.Rows.{value_at, between, Stops}
use Rattle.lists.proofs.Tests.{as_true, not_both, both_true, all_map}
use Rattle.task.proofs.Passing.{literal_passes}
use Rattle.task.proofs.Reading.{passes, mark_at_lem, value_at_lem}
use Rattle.task.proofs.Positions.{drop_next}
use Rattle.text.specs.Ascii.{ascii}
use Rattle.text.specs.Area.{Wrote}
use Rattle.pddl_parts.specs.Pddl.{spaced, fact_text, not_text, literal_text, clause_text}
use Rattle.pddl_parts.specs.Rows.{row_text, mark_at, Listed, list_at, ended_at}
use Rattle.pddl_parts.specs.Pieces.{clause}
use Rattle.pddl_parts.specs.Writing.{stretch, PieceAnswer}
use Rattle.pddl_parts.proofs.Listing.{there, opens_with, stops_opens, first_mark_lem, each_text, lists}
use Rattle.pddl_parts.proofs.Emitting.{Parts}

abbrev pub clause_parts : Parts Clause
clause_parts = record {
  head = CLAUSE;
  most = LACKS;
  inside = refl;
  value = λ c. 0;
  body = map literal_row;
  piece = λ n c. ascii " " ++ clause_text c;
  text = λ n l. spaced clause_text l;
  no_more = λ n. refl;
  one_more = λ n c l. refl;
}

-- One clause

literal_row_lem : (l : Literal) → row_text (literal_row l) ≡ literal_text l
literal_row_lem l = go l.holds
  where
    go : (h : Bool) → row_text (row (cond h 4 5) l.fact) ≡ cond h (fact_text l.fact) (not_text l.fact)
    go true = refl
    go false = refl

abbrev is_literal : ℕ → Bool
is_literal = between 4 5

literal_mark : (l : Literal) → is_literal (literal_row l).mark ≡ true
literal_mark l = as_true (is_literal (literal_row l).mark) (literal_passes (passes is_literal) (λ v. tt) (λ v. tt) l)

module _ (ms vs : List ℕ) (from : ℕ) where
  -- the first row after CLAUSE is a literal's, and the second is not
  abbrev pub alone : Bool
  alone = mark_at 4 5 ms (from + 1) && not (mark_at 4 5 ms (from + 1 + 1))

  first_literal : alone ≡ true → mark_at 4 5 ms (from + 1) ≡ true
  first_literal h = (both_true (mark_at 4 5 ms (from + 1)) (not (mark_at 4 5 ms (from + 1 + 1))) h).0

  pub first_there : alone ≡ true → from + 1 < length ms
  first_there h = (there 4 5 ms (from + 1) (first_literal h)).0

  -- by the rows
  alone_is : (y : Row) (ys : List Row) → drop (from + 1) (paired ms vs) ≡ y ∷ ys → alone ≡ (is_literal y.mark && not (opens_with is_literal ys))
  alone_is y ys e =
      λ z. (first_mark_lem 4 5 ms vs (from + 1) ∙ ap (opens_with is_literal) e) z
      && not ((first_mark_lem 4 5 ms vs (from + 1 + 1) ∙ ap (opens_with is_literal) (drop_next (from + 1) (paired ms vs) y ys e)) z)

  module _ (b : List ℕ) (at k : ℕ) (out : List ℕ) (xs : List Row) (s : Stops is_literal xs) where
    abbrev Written : Clause → ℕ → Type 0
    Written c next = Wrote b at (clause_text c) k out × (next ≡ from + length (clause_rows c))

    -- by the rows after CLAUSE
    one : alone ≡ true → Wrote b at (row_text (row (get_or ms (from + 1) 0) (value_at vs (from + 1)))) k out
        → (c : Clause) → drop (from + 1) (paired ms vs) ≡ map literal_row c ++ xs → Written c (from + 1 + 1)
    one h w [] e =
        absurd (not_both (first_literal h)
        (first_mark_lem 4 5 ms vs (from + 1) ∙ ap (opens_with is_literal) e ∙ stops_opens is_literal xs s))
    one h w (l ∷ []) e =
        let here : from + 1 < length ms = first_there h in
        let text : row_text (row (get_or ms (from + 1) 0) (value_at vs (from + 1))) ≡ literal_text l =
        (λ z. row_text (row (mark_at_lem ms vs (from + 1) here e z) (value_at_lem ms vs (from + 1) here e z))) ∙ literal_row_lem l in
        (subst (λ (t : List ℕ). Wrote b at t k out) text w, omega arith)
    one h w (l ∷ m ∷ c) e =
        absurd (not_both h
        (alone_is (literal_row l) (map literal_row (m ∷ c) ++ xs) e
        ∙ ap (λ (p : Bool). is_literal (literal_row l).mark && not p) (literal_mark m)
        ∙ ap (λ (p : Bool). p && false) (literal_mark l)))

    all_listed : Wrote b at (ascii "(or" ++ ((list_at 4 5 ms vs (from + 1)).text ++ ascii ")")) k out
        → (c : Clause) → drop (from + 1) (paired ms vs) ≡ map literal_row c ++ xs
        → Wrote b at (ascii "(or" ++ (spaced literal_text c ++ ascii ")")) k out × ((list_at 4 5 ms vs (from + 1)).next ≡ from + length (clause_rows c))
    all_listed w c e =
        let literals : T (all (passes is_literal) (map literal_row c)) = all_map (passes is_literal) literal_row (literal_passes (passes is_literal) (λ v. tt) (λ v. tt)) c in
        let r : list_at 4 5 ms vs (from + 1) ≡ ended_at (spaced literal_text c) (from + 1 + length (map literal_row c)) =
        lists 4 5 ms vs (from + 1) (map literal_row c) xs e literals s ∙ ap (λ (t : List ℕ). ended_at t (from + 1 + length (map literal_row c))) (each_text literal_row literal_text literal_row_lem c) in
        (subst (λ (l : Listed). Wrote b at (ascii "(or" ++ (l.text ++ ascii ")")) k out) r w, ap (λ (l : Listed). l.next) r ∙ omega arith)

    other : alone ≡ false → Wrote b at (ascii "(or" ++ ((list_at 4 5 ms vs (from + 1)).text ++ ascii ")")) k out
        → (c : Clause) → drop (from + 1) (paired ms vs) ≡ map literal_row c ++ xs → Written c (list_at 4 5 ms vs (from + 1)).next
    other h w [] e = all_listed w [] e
    other h w (l ∷ []) e =
        absurd (not_both
        (alone_is (literal_row l) xs e
        ∙ ap (λ (p : Bool). is_literal (literal_row l).mark && not p) (stops_opens is_literal xs s)
        ∙ ap (λ (p : Bool). p && true) (literal_mark l)) h)
    other h w (l ∷ m ∷ c) e = all_listed w (l ∷ m ∷ c) e

  after_clause : (c : Clause) (xs : List Row) → drop from (paired ms vs) ≡ clause_rows c ++ xs → drop (from + 1) (paired ms vs) ≡ map literal_row c ++ xs
  after_clause c xs = drop_next from (paired ms vs) (row CLAUSE 0) (map literal_row c ++ xs)

  module _ {b : List ℕ} {at k : ℕ} {out : List ℕ} where
    pub single : alone ≡ true → {v : ℕ} → v ≡ value_at vs (from + 1) → Wrote b at (row_text (row (get_or ms (from + 1) 0) v)) k out
        → PieceAnswer clause (stretch ms vs from) b at (record { at = k; next = from + 1 + 1 }) out
    single h value w =
        let known : Wrote b at (row_text (row (get_or ms (from + 1) 0) (value_at vs (from + 1)))) k out =
        subst (λ (n : ℕ). Wrote b at (row_text (row (get_or ms (from + 1) 0) n)) k out) value w in
        record { puts = λ c xs e s. one b at k out xs s h known c (after_clause c xs e) }

    pub several : alone ≡ false → Wrote b at (ascii "(or" ++ ((list_at 4 5 ms vs (from + 1)).text ++ ascii ")")) k out
        → {next : ℕ} → next ≡ (list_at 4 5 ms vs (from + 1)).next → PieceAnswer clause (stretch ms vs from) b at (record { at = k; next = next }) out
    several h w read = record { puts = λ c xs e s. let (x, y) = other b at k out xs s h w c (after_clause c xs e) in (x, read ∙ y) }
