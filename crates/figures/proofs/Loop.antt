-- The laws that loops over the plans of a file cite: each says what one turn, or the end, does.
use mathlib.Core.Path.{◌≡◌, refl, sym, ap, subst, ◌∙◌}
use mathlib.Core.Bool.{Bool, true, false, ◌&&◌}
use mathlib.Core.List.{List, [], ◌∷◌, map}
use Prim.Native.Nat.{ℕ, suc, ◌+◌, ◌*◌, ◌-◌, ◌≤◌, ◌<◌}
use native.Mathlib.Nat.{zero-add}
use native.Mathlib.Numerals.{add-one}
use native.Mathlib.Omega.{arith}
use lib.Dec.{T, leb→le}
use lib.ListN.{length, take, drop, length-drop, drop_of_length-le}
use lib.Seq.{drop-drop}
use Rattle.lists.specs.Lists.{all, range}
use Rattle.lists.proofs.Tests.{tests, as_t, both_true, all_drop}
use Rattle.task.specs.File.{Sizes}
use Rattle.task.specs.Check
use Rattle.task.specs.Check.{check}
use Rattle.task.proofs.Checking.{within}
use Rattle.task.proofs.Spelled.{accepted_spelling}
use Rattle.plan.specs.Judged.{judged}
use Rattle.figures.specs.Plans.{count, entry_at, entries, step_bytes, plan_of, plans, headed, stands, readable}
use Rattle.figures.specs.Week.{given, refused, week_of}
use Rattle.figures.specs.Pass.{Tally, no_plans, closed, turned, pass_on, pass, pass_at}
use Rattle.lists.proofs.Ranges.{drop-range, drop-map}
use Rattle.figures.proofs.Numbered.{length-entries}
use Rattle.figures.proofs.Passing.{pass_is}

module _ (f : List ℕ) (i : ℕ) where
  -- plan i
  abbrev pub plan_at : List ℕ
  plan_at = plan_of (step_bytes f) (entry_at f i)

  pub entry_next : i < count f → drop i (entries f) ≡ entry_at f i ∷ drop (i + 1) (entries f)
  entry_next h =
      drop-map (entry_at f) i (range 0 (count f))
      ∙ ap (map (entry_at f)) (drop-range 0 (count f) i h)
      ∙ (λ z. entry_at f (zero-add i z) ∷ sym (drop-map (entry_at f) (suc i) (range 0 (count f))) z)
      ∙ ap (λ (j : ℕ). entry_at f i ∷ drop j (entries f)) (sym (add-one i))

  plan_next : i < count f → drop i (plans f) ≡ plan_at ∷ drop (i + 1) (plans f)
  plan_next h =
      drop-map (plan_of (step_bytes f)) i (entries f)
      ∙ ap (map (plan_of (step_bytes f))) (entry_next h)
      ∙ ap (λ (l : List (List ℕ)). plan_at ∷ l) (sym (drop-map (plan_of (step_bytes f)) (i + 1) (entries f)))

  entries_end : count f ≤ i → drop i (entries f) ≡ []
  entries_end h = drop_of_length-le (entries f) {i = i} (omega (arith, length-entries f))

  plans_end : count f ≤ i → drop i (plans f) ≡ []
  plans_end h = drop-map (plan_of (step_bytes f)) i (entries f) ∙ ap (map (plan_of (step_bytes f))) (entries_end h)

  -- Refusal 18: the plans from number i on stand within the step bytes

  abbrev pub stand_from : Bool
  stand_from = all (stands (step_bytes f)) (drop i (entries f))

  pub stand_next : i < count f → stand_from ≡ (stands (step_bytes f) (entry_at f i) && all (stands (step_bytes f)) (drop (i + 1) (entries f)))
  stand_next h = ap (all (stands (step_bytes f))) (entry_next h)

  pub stand_end : count f ≤ i → stand_from ≡ true
  stand_end h = ap (all (stands (step_bytes f))) (entries_end h)

  -- The pass

  module _ (b : List ℕ) (P : ℕ) (a : Tally) where
    pub pass_next : i < count f → pass_at b f P a i ≡ pass_on (λ (a' : Tally). pass_at b f P a' (i + 1)) (turned i a (judged b plan_at))
    unfolding pass
    pass_next h = ap (pass b P a i) (plan_next h)

    pub pass_end : count f ≤ i → pass_at b f P a i ≡ given (closed P a)
    unfolding pass
    pass_end h = ap (pass b P a i) (plans_end h)

pub readable_is : (f : List ℕ) → readable f ≡ (headed f && stand_from f 0)
unfolding readable
readable_is f = refl

-- plan i stands within the step bytes of a file that can be read
module _ (f : List ℕ) (r : readable f ≡ true) where
  pub read_head : headed f ≡ true
  read_head = (both_true (headed f) (stand_from f 0) (sym (readable_is f) ∙ r)).0

  pub plan_within : (i : ℕ) → i < count f → 2 + 4 * count f + ((entry_at f i).start + (entry_at f i).steps) ≤ length f
  plan_within i h =
      let all_stand : T (stand_from f 0) = as_t (both_true (headed f) (stand_from f 0) (sym (readable_is f) ∙ r)).1 in
      let from : T (stand_from f i) = all_drop (stands (step_bytes f)) i (entries f) all_stand in
      let this : T (stands (step_bytes f) (entry_at f i) && stand_from f (i + 1)) = subst T (stand_next f i h) from in
      let fits : (entry_at f i).start + (entry_at f i).steps ≤ length (step_bytes f) =
      leb→le ((entry_at f i).start + (entry_at f i).steps) (length (step_bytes f)) (search tests) in
      let head : T (headed f) = as_t read_head in
      let room : 2 + 4 * count f ≤ length f = leb→le (2 + 4 * count f) (length f) (search tests) in
      omega (arith, length-drop (2 + 4 * count f) f)

  -- as code lends it: from its first step in the file to the one after its last
  pub plan_lent : (i from to : ℕ) → from ≡ 2 + 4 * count f + (entry_at f i).start → to ≡ from + (entry_at f i).steps
      → take (to - from) (drop from f) ≡ plan_at f i
  plan_lent i from to p q =
      let many : to - from ≡ (entry_at f i).steps = omega arith in
      (λ z. take (many z) (drop (p z) f))
      ∙ ap (take (entry_at f i).steps) (sym (drop-drop (entry_at f i).start (2 + 4 * count f) f))

-- The answer, in the order of the refusals

module _ (b f : List ℕ) where
  module _ (z : Sizes) (h : check b ≡ Check.accepted z) where
    pub week_unreadable : readable f ≡ false → week_of b f ≡ refused 18 0
    unfolding week_of
    week_unreadable r = rw (h, r)

    pub week_pass : readable f ≡ true → week_of b f ≡ pass_at b f z.preferences no_plans 0
    unfolding week_of
    week_pass r = rw (h, r) (sym (pass_is b z h (within z (accepted_spelling b z h).allowed).4 (plans f)))
