-- The rows at which actions begin, noted one after the other.
use mathlib.Core.Path.{◌≡◌, sym, ap, ◌∙◌}
use mathlib.Core.List.{List, ◌∷◌, [], ◌++◌, append-nil, append_assoc}
use Prim.Native.Nat.{ℕ, ◌+◌, ◌≤◌, ◌<◌}
use native.Mathlib.Numerals.{add-one}
use native.Mathlib.Omega.{arith}
use lib.ListN.{length, take, drop, get_or, set, length-set, drop_of_length-le}
use lib.Seq.{drop-cons, take-suc-set}
use borrow.Author.Tests.{eq-eqb, ne_eqb}
use Rattle.task.specs.Marks.{ACTION}
use Rattle.layout.specs.Actions.{actions_from}

-- what holds before row i, with c actions noted
pub record Noting (ms starts₀ starts : List ℕ) (c i : ℕ) : Type 0 where
  pub size : length starts ≡ length starts₀
  pub room : c + length (actions_from i (drop i ms)) ≤ length starts
  pub so_far : take c starts ++ actions_from i (drop i ms) ≡ actions_from 0 ms

module _ (ms starts₀ starts : List ℕ) (c i : ℕ) (N : Noting ms starts₀ starts c i) where
  module _ (h : i < length ms) where
    module _ (e : get_or ms i 0 ≡ ACTION) where
      here : actions_from i (drop i ms) ≡ i ∷ actions_from (i + 1) (drop (i + 1) ms)
      unfolding actions_from
      here = rw (drop-cons ms i 0 h, eq-eqb (get_or ms i 0) ACTION e, add-one i)

      pub fits : c < length starts
      fits = omega (arith, N.room, ap length here)

      pub noted_on : Noting ms starts₀ (set starts c i) (c + 1) (i + 1)
      noted_on = record {
        size = length-set starts c i ∙ N.size;
        room = omega (arith, N.room, ap length here, length-set starts c i);
        so_far =
            ap (λ (l : List ℕ). l ++ actions_from (i + 1) (drop (i + 1) ms)) (ap (λ (n : ℕ). take n (set starts c i)) (add-one c) ∙ take-suc-set starts c i fits)
            ∙ append_assoc (take c starts) (i ∷ []) (actions_from (i + 1) (drop (i + 1) ms))
            ∙ ap (λ (l : List ℕ). take c starts ++ l) (sym here)
            ∙ N.so_far;
      }

    pub passed_on : (get_or ms i 0 ≡ ACTION → ⊥) → Noting ms starts₀ starts c (i + 1)
    unfolding actions_from
    passed_on ne =
        let e : actions_from i (drop i ms) ≡ actions_from (i + 1) (drop (i + 1) ms) = rw (drop-cons ms i 0 h, ne_eqb (get_or ms i 0) ACTION ne, add-one i) in
        record {
          size = N.size;
          room = omega (arith, N.room, ap length e);
          so_far = ap (λ (l : List ℕ). take c starts ++ l) (sym e) ∙ N.so_far;
        }

  module _ (h : length ms ≤ i) where
    pub all_noted : take c starts ≡ actions_from 0 ms
    unfolding actions_from
    all_noted = sym (append-nil (take c starts)) ∙ ap (λ (l : List ℕ). take c starts ++ actions_from i l) (sym (drop_of_length-le ms {i = i} h)) ∙ N.so_far
