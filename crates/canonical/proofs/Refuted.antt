-- Wrong spellings, refuted: what request 10 claims of the one spelling fails for each, on a small task or two.
use mathlib.Core.Path.{◌≡◌, refl, ap₂, subst}
use mathlib.Core.Logic.{◌↔◌}
use mathlib.Core.Bool.{Bool, true, false, not, cond, ◌&&◌}
use mathlib.Core.List.{List, [], ◌∷◌, ◌++◌, map}
use Prim.Native.Nat.{ℕ}
use lib.Dec.{T, eqb, leb, eqb_refl, eqb→eq}
use Rattle.lists.specs.Lists.{singleton, all, concat_map, elem, filter, range}
use Rattle.meaning.specs.Task.{Clause, Condition, Effect, Action, Preference, Task}
use Rattle.task.specs.File.{Sizes, file_of, task_of}
use Rattle.task.specs.Check.{Answer, accepted, refused, check, check_rows}
use Rattle.lists.proofs.Tests.{tests, denied}
use Rattle.classical.proofs.Refuted.{is_accepted}
use Rattle.canonical.specs.Canonical.{in_order, literal, same_literal, canonical_facts, canonical_condition, canonical, respelled}
use Rattle.canonical.specs.SameSpelling.{SameSpelling}
use Rattle.canonical.specs.Agreed.{literal_rank, agreed}
use Rattle.canonical.proofs.Agreed.{canonical-agreed}
use Rattle.canonical.proofs.Respelled.{equal_bytes}

-- The claim for a spelling w: two accepted files give equal bytes exactly where their tasks differ only in order and repeats, and what is
-- written is in the agreed order
pub record OneSpelling (w : Task → Task) : Type 0 where
  pub equal : (a b : List ℕ) (y z : Sizes) → check a ≡ accepted y → check b ≡ accepted z
      → (file_of (w (task_of a)) ≡ file_of (w (task_of b))) ↔ SameSpelling (task_of a) (task_of b)
  pub ordered : (t : Task) → T (agreed (w t))

-- Spellings with parts of their own: of conditions, of the facts added and of those deleted, by F and by both lists

pub record Parts : Type 0 where
  pub condition : ℕ → Condition → Condition
  pub adding : ℕ → List ℕ → List ℕ → List ℕ
  pub deleting : ℕ → List ℕ → List ℕ → List ℕ

module _ (p : Parts) (F : ℕ) where
  abbrev effect_by : Effect → Effect
  effect_by e =
      record {
        condition = p.condition F e.condition;
        adds = p.adding F e.adds e.deletes;
        deletes = p.deleting F e.adds e.deletes;
      }

  abbrev action_by : Action → Action
  action_by a = record { cost = a.cost; precondition = p.condition F a.precondition; effects = map effect_by a.effects }

  abbrev preference_by : Preference → Preference
  preference_by q =
      record { kind = q.kind; hard = q.hard; weight = q.weight; first = p.condition F q.first; second = p.condition F q.second }

abbrev pub spelled_by : Parts → Task → Task
spelled_by p t =
    record {
      facts = t.facts;
      start = t.start;
      goal = p.condition t.facts t.goal;
      actions = map (action_by p t.facts) t.actions;
      preferences = map (preference_by p t.facts) t.preferences;
    }

abbrev parts : Parts
parts = record { condition = canonical_condition; adding = λ F added deleted. canonical_facts F added; deleting = λ F added deleted. canonical_facts F deleted }

-- With the right parts the claim holds
pub right : OneSpelling (spelled_by parts)
unfolding canonical
right = record { equal = equal_bytes; ordered = canonical-agreed }

-- The wrong parts

abbrev with_conditions : (ℕ → Condition → Condition) → Parts
with_conditions f = record { condition = f; adding = parts.adding; deleting = parts.deleting }

abbrev lacks_first : Parts
lacks_first = with_conditions (λ F. map (in_order same_literal (concat_map (λ (n : ℕ). literal false n ∷ literal true n ∷ []) (range 0 F))))

-- a list by rising rank, every repeat in it
module _ {A : Type 0} (rank : A → ℕ) where
  abbrev inserted : A → List A → List A
  inserted x [] = singleton x
  inserted x (y ∷ ys) = cond (leb (rank x) (rank y)) (x ∷ y ∷ ys) (y ∷ inserted x ys)

  abbrev sorted : List A → List A
  sorted [] = []
  sorted (x ∷ xs) = inserted x (sorted xs)

abbrev repeats_kept : Parts
repeats_kept = with_conditions (λ F. map (sorted literal_rank))

-- by their first literals
abbrev first_rank : Clause → ℕ
first_rank [] = 0
first_rank (l ∷ c) = literal_rank l

abbrev clauses_sorted : Parts
clauses_sorted = with_conditions (λ F c. sorted first_rank (canonical_condition F c))

abbrev with_facts : (ℕ → List ℕ → List ℕ → List ℕ) → (ℕ → List ℕ → List ℕ → List ℕ) → Parts
with_facts f g = record { condition = canonical_condition; adding = f; deleting = g }

abbrev added_as_written : Parts
added_as_written = with_facts (λ F added deleted. added) parts.deleting

abbrev deleted_as_written : Parts
deleted_as_written = with_facts parts.adding (λ F added deleted. deleted)

-- ADD and DELETE rows in one list
abbrev merged : Parts
merged = with_facts (λ F added deleted. canonical_facts F (added ++ deleted)) (λ F added deleted. [])

-- a fact that is added too is not deleted, which means the same
abbrev added_only : Parts
added_only = with_facts parts.adding (λ F added deleted. filter (λ (n : ℕ). not (elem n added)) (canonical_facts F deleted))

-- What shows that the claim fails

abbrev same_bytes : List ℕ → List ℕ → Bool
same_bytes [] [] = true
same_bytes [] (y ∷ ys) = false
same_bytes (x ∷ xs) [] = false
same_bytes (x ∷ xs) (y ∷ ys) = eqb x y && same_bytes xs ys

pub data Evidence : Type 0 where
  -- two files of one task that stay two files
  split : Task → Task → Evidence
  -- files of two tasks that become one file
  joined : Task → Task → Evidence
  -- a task whose spelling is not in the agreed order
  unordered : Task → Evidence

abbrev is_accepted_file : Task → Bool
is_accepted_file t = is_accepted (check (file_of t))

abbrev written : Parts → Task → List ℕ
written p t = file_of (spelled_by p (task_of (file_of t)))

abbrev agree : Task → Task → Bool
agree s t = same_bytes (respelled (file_of s)) (respelled (file_of t))

abbrev pub shows : Parts → Evidence → Bool
shows p (split s t) = is_accepted_file s && (is_accepted_file t && (agree s t && not (same_bytes (written p s) (written p t))))
shows p (joined s t) = is_accepted_file s && (is_accepted_file t && (not (agree s t) && same_bytes (written p s) (written p t)))
shows p (unordered t) = not (agreed (spelled_by p t))

-- The table: a task with a goal and an action of one effect

abbrev tiny : Condition → List ℕ → List ℕ → Task
tiny goal added deleted =
    record {
      facts = 2;
      start = [];
      goal = goal;
      actions = singleton (record { cost = 1; precondition = []; effects = singleton (record { condition = []; adds = added; deletes = deleted }) });
      preferences = [];
    }

abbrev goal : Condition → Task
goal c = tiny c [] []

abbrev pub mistakes : List (Parts × Evidence)
mistakes =
    (lacks_first, unordered (goal (singleton (literal true 0 ∷ literal false 0 ∷ []))))
    ∷ (repeats_kept, split (goal (singleton (literal true 0 ∷ literal true 0 ∷ []))) (goal (singleton (singleton (literal true 0)))))
    ∷ (
      clauses_sorted,
      joined (goal (singleton (literal true 1) ∷ singleton (literal true 0) ∷ []))
          (goal (singleton (literal true 0) ∷ singleton (literal true 1) ∷ [])),
    )
    ∷ (added_as_written, split (tiny [] (1 ∷ 0 ∷ []) []) (tiny [] (0 ∷ 1 ∷ []) []))
    ∷ (deleted_as_written, split (tiny [] [] (0 ∷ 0 ∷ [])) (tiny [] [] (singleton 0)))
    ∷ (merged, joined (tiny [] (singleton 0) (singleton 1)) (tiny [] (0 ∷ 1 ∷ []) []))
    ∷ (added_only, joined (tiny [] (singleton 0) (singleton 0)) (tiny [] (singleton 0) []))
    ∷ []

-- What the evidence means

same_itself : (xs : List ℕ) → T (same_bytes xs xs)
same_itself [] = tt
same_itself (x ∷ xs) = search (tests, eqb_refl x, same_itself xs)

same_equal : (xs ys : List ℕ) → T (same_bytes xs ys) → xs ≡ ys
same_equal [] [] h = refl
same_equal [] (y ∷ ys) h = absurd h
same_equal (x ∷ xs) [] h = absurd h
same_equal (x ∷ xs) (y ∷ ys) h = ap₂ ◌∷◌ (eqb→eq x y (search tests)) (same_equal xs ys (search tests))

apart : (xs ys : List ℕ) → T (not (same_bytes xs ys)) → xs ≡ ys → ⊥
apart xs ys h e = denied (same_bytes xs ys) h (subst (λ (zs : List ℕ). T (same_bytes xs zs)) e (same_itself xs))

accepted_by : (x : Answer) → T (is_accepted x) → (z : Sizes) × (x ≡ accepted z)
accepted_by (accepted z) h = (z, refl)
accepted_by (refused n i) h = absurd h

refute : (p : Parts) (e : Evidence) → T (shows p e) → OneSpelling (spelled_by p) → ⊥
refute p (split s t) h one =
    let y = accepted_by (check (file_of s)) (search tests) in
    let z = accepted_by (check (file_of t)) (search tests) in
    apart (written p s) (written p t) (search tests)
    ((one.equal (file_of s) (file_of t) y.0 z.0 y.1 z.1).1
    ((equal_bytes (file_of s) (file_of t) y.0 z.0 y.1 z.1).0 (same_equal (respelled (file_of s)) (respelled (file_of t)) (search tests))))
refute p (joined s t) h one =
    let y = accepted_by (check (file_of s)) (search tests) in
    let z = accepted_by (check (file_of t)) (search tests) in
    apart (respelled (file_of s)) (respelled (file_of t)) (search tests)
    ((equal_bytes (file_of s) (file_of t) y.0 z.0 y.1 z.1).1
    ((one.equal (file_of s) (file_of t) y.0 z.0 y.1 z.1).0 (same_equal (written p s) (written p t) (search tests))))
refute p (unordered t) h one = denied (agreed (spelled_by p t)) h (one.ordered t)

abbrev pub Refuted : List (Parts × Evidence) → Type 0
Refuted [] = Unit {0}
Refuted (m ∷ ms) = (OneSpelling (spelled_by m.0) → ⊥) × Refuted ms

by_evidence : (ms : List (Parts × Evidence)) → T (all (λ (m : Parts × Evidence). shows m.0 m.1) ms) → Refuted ms
by_evidence [] h = tt
by_evidence (m ∷ ms) h = (refute m.0 m.1 (search tests), by_evidence ms (search tests))

pub refuted : Refuted mistakes
unfolding canonical check check_rows
refuted = by_evidence mistakes tt
