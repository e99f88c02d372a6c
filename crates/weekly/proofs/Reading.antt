-- The loop over the plans of a file that decides whether it can be read.
use mathlib.Core.Path.{◌≡◌, sym, ap, ◌∙◌}
use mathlib.Core.Bool.{Bool, true, false, ◌&&◌}
use mathlib.Core.List.{List}
use Prim.Native.Nat.{ℕ, ◌+◌, ◌*◌, ◌-◌, ◌≤◌, ◌<◌}
use lib.Dec.{T, leb, leb→le}
use lib.ListN.{length, length-drop}
use Rattle.lists.proofs.Tests.{tests, as_t}
use Rattle.figures.specs.Plans.{Entry, count, entry_at, step_bytes, headed, stands, readable}
use Rattle.figures.proofs.Loop.{stand_from, stand_next, stand_end, readable_is}

-- what holds before plan i of n
pub record Reading (f : List ℕ) (n i : ℕ) : Type 0 where
  pub left : i ≤ n
  pub same : stand_from f i ≡ stand_from f 0

pub unheaded : (f : List ℕ) → headed f ≡ false → readable f ≡ false
unheaded f h = readable_is f ∙ ap (λ (b : Bool). b && stand_from f 0) h

module _ (f : List ℕ) (head : headed f ≡ true) where
  pub head_fits : (1 ≤ count f) × (count f ≤ 64) × (2 + 4 * count f ≤ length f)
  head_fits =
      let t : T (headed f) = as_t {b = headed f} head in (
        leb→le 1 (count f) (search tests),
        leb→le (count f) 64 (search tests),
        leb→le (2 + 4 * count f) (length f) (search tests),
      )

  module _ (i : ℕ) (same : stand_from f i ≡ stand_from f 0) where
    answered : (x : Bool) → stand_from f i ≡ x → readable f ≡ x
    answered x e = readable_is f ∙ ap (λ (b : Bool). b && stand_from f 0) head ∙ sym same ∙ e

    pub all_stand : count f ≤ i → readable f ≡ true
    all_stand h = answered true (stand_end f i h)

    module _ (h : i < count f) (e : Entry) (q : e ≡ entry_at f i) where
      by_entry : (x : Bool) → stands (step_bytes f) e ≡ x → stand_from f i ≡ (x && stand_from f (i + 1))
      by_entry x s = stand_next f i h ∙ ap (λ (b : Bool). b && stand_from f (i + 1)) (ap (stands (step_bytes f)) (sym q) ∙ s)

      -- the room for steps
      room : leb (e.start + e.steps) (length (step_bytes f)) ≡ leb (e.start + e.steps) (length f - (2 + 4 * count f))
      room = ap (leb (e.start + e.steps)) (length-drop (2 + 4 * count f) f)

      pub past_the_end : leb (e.start + e.steps) (length f - (2 + 4 * count f)) ≡ false → readable f ≡ false
      past_the_end l = answered false (by_entry false (room ∙ l))

      pub next_stands : leb (e.start + e.steps) (length f - (2 + 4 * count f)) ≡ true → stand_from f (i + 1) ≡ stand_from f 0
      next_stands l = sym (by_entry true (room ∙ l)) ∙ same
