-- Request 10 for files: the one spelling of an accepted file is accepted, means the same and is its own; two accepted files give equal
-- bytes exactly when their tasks differ only in order and repeats, and then every plan is judged the same, and so are their translations.
use mathlib.Core.Path.{◌≡◌, sym, ap, ◌∙◌, subst, subst⁻¹}
use mathlib.Core.Logic.{◌↔◌}
use mathlib.Core.List.{List}
use Prim.Native.Nat.{ℕ, ◌≤◌}
use native.Mathlib.Omega.{arith}
use lib.Dec.{T, leb→le}
use lib.ListN.{length, length-map}
use Rattle.meaning.specs.Task.{Task, well_formed}
use Rattle.task.specs.TaskRows.{task_rows}
use Rattle.task.specs.File.{Sizes, sizes_of, task_of, file_of, with_rows}
use Rattle.task.specs.Check.{check, accepted, sizes_allowed}
use Rattle.task.specs.Spelling.{spellable}
use Rattle.lists.proofs.Tests.{tests}
use Rattle.task.proofs.Pieces.{task_ok, task_ok_lem, ok-well_formed, ok-spellable}
use Rattle.task.proofs.Spelled.{Spelling, accepted_spelling, allowed_within, read_back, spelled_accepted}
use Rattle.classical.specs.Claim.{Faithful}
use Rattle.alike.specs.Alike.{Alike, JudgedAlike}
use Rattle.alike.proofs.Verdict.{judged_alike}
use Rattle.canonical.specs.Canonical.{canonical_action, canonical_preference, canonical, respelled, respelled_rows}
use Rattle.canonical.specs.SameSpelling.{SameSpelling}
use Rattle.canonical.specs.SharedSolutions.{SharedSolutions}
use Rattle.canonical.proofs.Same.{same_canonical, canonical_kept, one_spelling}
use Rattle.canonical.proofs.Twice.{canonical_twice}
use Rattle.canonical.proofs.Meaning.{spelling_alike, spelling_ok}
use Rattle.canonical.proofs.Shorter.{canonical_shorter}
use Rattle.canonical.proofs.SharedSolutions.{solutions_shared}

pub canonical_alike : (t : Task) → T (well_formed t) → Alike t (canonical t)
canonical_alike t w = spelling_alike t (canonical t) (canonical_kept t w)

pub canonical_sizes : (t : Task) → sizes_of (canonical t) ≡ with_rows (sizes_of t) (length (task_rows (canonical t)))
unfolding canonical
canonical_sizes t = λ i. record {
  facts = t.facts;
  actions = length-map t.actions (canonical_action t.facts) i;
  preferences = length-map t.preferences (canonical_preference t.facts) i;
  rows = length (task_rows (canonical t));
}

canonical-ok : (t : Task) → T (well_formed t) → T (spellable t) → T (task_ok (canonical t).facts (canonical t))
canonical-ok t w s =
    let e : SameSpelling t (canonical t) = canonical_kept t w in
    subst (λ (F : ℕ). T (task_ok F (canonical t))) e.facts (subst T (spelling_ok t.facts t (canonical t) e) (task_ok_lem t w s))

pub canonical_formed : (t : Task) → T (well_formed t) → T (spellable t) → T (well_formed (canonical t))
canonical_formed t w s = ok-well_formed (canonical t) (canonical-ok t w s)

pub canonical-spellable : (t : Task) → T (well_formed t) → T (spellable t) → T (spellable (canonical t))
canonical-spellable t w s = ok-spellable (canonical t) (canonical-ok t w s)

-- F, A and P stay, and N does not grow
pub record Respelled (b : List ℕ) (z : Sizes) : Type 0 where
  pub accepting : check (respelled b) ≡ accepted (with_rows z (respelled_rows b))
  pub fewer : respelled_rows b ≤ z.rows
  pub reading : task_of (respelled b) ≡ canonical (task_of b)
  pub again : respelled (respelled b) ≡ respelled b
  pub meaning : Alike (task_of b) (task_of (respelled b))

pub respelled_file : (b : List ℕ) (z : Sizes) → check b ≡ accepted z → Respelled b z
respelled_file b z h = build (accepted_spelling b z h)
  where
    z' : Sizes
    z' = with_rows z (respelled_rows b)

    build : Spelling b z → Respelled b z
    build s =
        let t : Task = task_of b in
        let few : respelled_rows b ≤ z.rows = subst (λ (z : Sizes). respelled_rows b ≤ z.rows) s.sized (canonical_shorter t) in
        let few' : respelled_rows b ≤ 12000 = omega (arith, few, leb→le z.rows 12000 (search tests)) in
        let fine : T (sizes_allowed z') =
        allowed_within z' (leb→le 1 z.facts (search tests)) (leb→le z.facts 128 (search tests)) (leb→le z.actions 128 (search tests))
        (leb→le z.preferences 16 (search tests)) few' in
        let e : sizes_of (canonical t) ≡ z' = canonical_sizes t ∙ ap (λ (z : Sizes). with_rows z (respelled_rows b)) s.sized in
        let ok : T (sizes_allowed (sizes_of (canonical t))) = subst⁻¹ (λ (z : Sizes). T (sizes_allowed z)) e fine in
        let formed : T (well_formed (canonical t)) = canonical_formed t s.formed s.spelling in
        let spelling : T (spellable (canonical t)) = canonical-spellable t s.formed s.spelling in
        let back : task_of (respelled b) ≡ canonical t = read_back (canonical t) ok formed spelling in
        record {
          accepting = spelled_accepted (canonical t) formed spelling ok ∙ ap accepted e;
          fewer = few;
          reading = back;
          again = ap (λ (u : Task). file_of (canonical u)) back ∙ ap file_of (canonical_twice t);
          meaning = subst⁻¹ (Alike t) back (canonical_alike t s.formed);
        }

-- what a file and its spelling share
module _ (b : List ℕ) (z : Sizes) (h : check b ≡ accepted z) where
  pub respelled_judged : (p : List ℕ) → JudgedAlike (task_of b) (task_of (respelled b)) p
  respelled_judged = judged_alike (task_of b) (task_of (respelled b)) (respelled_file b z h).meaning

  pub respelled_solutions : (c d : Task) → Faithful (task_of b) c → Faithful (task_of (respelled b)) d
      → SharedSolutions (task_of b) c (task_of (respelled b)) d
  respelled_solutions = solutions_shared (task_of b) (task_of (respelled b)) (respelled_file b z h).meaning

-- F, A and P count: they are the same in two such tasks. N does not
module _ (a b : List ℕ) (y z : Sizes) (h : check a ≡ accepted y) (k : check b ≡ accepted z) where
  pub equal_bytes : (respelled a ≡ respelled b) ↔ SameSpelling (task_of a) (task_of b)
  equal_bytes = (
    λ e. (one_spelling (task_of a) (task_of b) (accepted_spelling a y h).formed (accepted_spelling b z k).formed).0
        (sym (respelled_file a y h).reading ∙ ap task_of e ∙ (respelled_file b z k).reading),
    λ e. ap file_of (same_canonical (task_of a) (task_of b) e),
  )

  equal_alike : respelled a ≡ respelled b → Alike (task_of a) (task_of b)
  equal_alike e = spelling_alike (task_of a) (task_of b) (equal_bytes.0 e)

  pub equal_judged : respelled a ≡ respelled b → (p : List ℕ) → JudgedAlike (task_of a) (task_of b) p
  equal_judged e = judged_alike (task_of a) (task_of b) (equal_alike e)

  pub equal_solutions : respelled a ≡ respelled b → (c d : Task) → Faithful (task_of a) c → Faithful (task_of b) d
      → SharedSolutions (task_of a) c (task_of b) d
  equal_solutions e = solutions_shared (task_of a) (task_of b) (equal_alike e)
