-- Check refuses by a number from 1 to 6.
use mathlib.Core.Path.{◌≡◌, subst}
use mathlib.Core.Bool.{Bool, true, false, not, cond, ◌&&◌}
use mathlib.Core.List.{List, [], ◌∷◌}
use mathlib.Core.Option.{Option, none, some}
use Prim.Native.Nat.{ℕ, ◌+◌, ◌*◌, ◌≤◌}
use lib.Dec.{T, eqb, leb, leb→le, ltb}
use lib.ListN.{length}
use Rattle.task.specs.TaskRows.{Row}
use Rattle.task.specs.File.{Sizes, sizes, rows}
use Rattle.task.specs.Check.{Answer, accepted, refused, Context, follow, may_end, value_allowed, Progress, first_progress, next_progress, check_on, check_rows, sizes_allowed, check}
use Rattle.lists.proofs.Tests.{tests}

abbrev one_to_six : Answer → Bool
one_to_six (accepted z) = true
one_to_six (refused n i) = leb 1 n && leb n 6

either : (b : Bool) (x y : Answer) → T (one_to_six x) → T (one_to_six y) → T (one_to_six (cond b x y))
either true x y p q = p
either false x y p q = q

walk_numbers : (z : Sizes) (i : ℕ) (xs : List Row) (w : Progress) → T (one_to_six (check_rows z i xs w))
unfolding check_rows
walk_numbers z i [] w =
    either (may_end w.context) (cond (eqb w.actions z.actions && eqb w.preferences z.preferences) (accepted z) (refused 6 i)) (refused 4 i)
    (either (eqb w.actions z.actions && eqb w.preferences z.preferences) (accepted z) (refused 6 i) tt tt) tt
walk_numbers z i (x ∷ xs) w = by_context (λ v. walk_numbers z (i + 1) xs v) (follow w.context x.mark)
  where
    by_context : ((v : Progress) → T (one_to_six (check_rows z (i + 1) xs v))) → (o : Option Context) → T (one_to_six (check_on z i x w (check_rows z (i + 1) xs) o))
    by_context more none = tt
    by_context more (some c) =
        either (value_allowed z.facts w.floor x) (check_rows z (i + 1) xs (next_progress w c x)) (refused 5 i) (more (next_progress w c x)) tt

check_numbers : (b : List ℕ) → T (one_to_six (check b))
unfolding check
check_numbers b =
    let z : Sizes = sizes b in
    let walked : Answer = check_rows z 0 (rows b) first_progress in
    let sized : Answer = cond (not (eqb (length b) (8 + 5 * z.rows))) (refused 3 0) walked in
    either (ltb (length b) 8) (refused 1 0) (cond (not (sizes_allowed z)) (refused 2 0) sized) tt
    (either (not (sizes_allowed z)) (refused 2 0) sized tt
    (either (not (eqb (length b) (8 + 5 * z.rows))) (refused 3 0) walked tt (walk_numbers z 0 (rows b) first_progress)))

pub one_to_six_lem : (b : List ℕ) (n i : ℕ) → check b ≡ refused n i → (1 ≤ n) × (n ≤ 6)
one_to_six_lem b n i e =
    let t : T (leb 1 n && leb n 6) = subst (λ (a : Answer). T (one_to_six a)) e (check_numbers b) in
    (leb→le 1 n (search tests), leb→le n 6 (search tests))
