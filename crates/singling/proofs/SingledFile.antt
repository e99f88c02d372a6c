-- Request 12 for files: the bytes written are accepted, and the task in them means what the source means.
use mathlib.Core.Path.{◌≡◌, ap, ◌∙◌, subst⁻¹}
use mathlib.Core.List.{List}
use Prim.Native.Nat.{ℕ, ◌≤◌}
use lib.Dec.{T, leb→le}
use Rattle.lists.specs.Lists.{all}
use Rattle.meaning.specs.Task.{Task, well_formed}
use Rattle.task.specs.File.{Sizes, sizes_of, task_of, with_rows}
use Rattle.task.specs.Check.{check, accepted, sizes_allowed}
use Rattle.task.specs.Spelling.{spellable}
use Rattle.lists.proofs.Tests.{tests}
use Rattle.task.proofs.Spelled.{Spelling, accepted_spelling, allowed_within, read_back, spelled_accepted}
use Rattle.alike.specs.Alike.{Alike, JudgedAlike}
use Rattle.alike.proofs.Verdict.{judged_alike}
use Rattle.singling.specs.Singled.{singled, singled_file, singled_rows, single_effects}
use Rattle.singling.proofs.Leads.{singled_alike}
use Rattle.singling.proofs.Spellable.{singled_single, singled_formed, singled-spellable, singled_sizes}

pub record SingledFile (b : List ℕ) (z : Sizes) : Type 0 where
  pub accepting : check (singled_file b) ≡ accepted (with_rows z (singled_rows b))
  pub reading : task_of (singled_file b) ≡ singled (task_of b)
  pub single : T (all single_effects (task_of (singled_file b)).actions)
  pub meaning : Alike (task_of b) (task_of (singled_file b))
  pub judging : (p : List ℕ) → JudgedAlike (task_of b) (task_of (singled_file b)) p

pub singled_file_lem : (b : List ℕ) (z : Sizes) → check b ≡ accepted z → singled_rows b ≤ 12000 → SingledFile b z
singled_file_lem b z h n = build (accepted_spelling b z h)
  where
    z' : Sizes
    z' = with_rows z (singled_rows b)

    build : Spelling b z → SingledFile b z
    build s =
        let t : Task = singled (task_of b) in
        let fine : T (sizes_allowed z') =
        allowed_within z' (leb→le 1 z.facts (search tests)) (leb→le z.facts 128 (search tests)) (leb→le z.actions 128 (search tests))
        (leb→le z.preferences 16 (search tests)) n in
        let e : sizes_of t ≡ z' = singled_sizes (task_of b) ∙ ap (λ (z : Sizes). with_rows z (singled_rows b)) s.sized in
        let ok : T (sizes_allowed (sizes_of t)) = subst⁻¹ (λ (z : Sizes). T (sizes_allowed z)) e fine in
        let formed : T (well_formed t) = singled_formed (task_of b) s.formed s.spelling in
        let spelling : T (spellable t) = singled-spellable (task_of b) s.formed s.spelling in
        let back : task_of (singled_file b) ≡ t = read_back t ok formed spelling in
        let alike : Alike (task_of b) (task_of (singled_file b)) = subst⁻¹ (Alike (task_of b)) back (singled_alike (task_of b)) in
        record {
          accepting = spelled_accepted t formed spelling ok ∙ ap accepted e;
          reading = back;
          single = subst⁻¹ (λ (u : Task). T (all single_effects u.actions)) back (singled_single (task_of b));
          meaning = alike;
          judging = judged_alike (task_of b) (task_of (singled_file b)) alike;
        }
