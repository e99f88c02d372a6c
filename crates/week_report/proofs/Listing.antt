-- The lines that a loop over the counts writes.
use mathlib.Core.Path.{◌≡◌, refl, sym, ap, subst, ◌∙◌}
use mathlib.Core.List.{List, [], ◌++◌, append_assoc}
use Prim.Native.Nat.{ℕ, ◌+◌, ◌*◌, ◌≤◌, ◌<◌}
use native.Mathlib.Numerals.{add-one}
use native.Mathlib.Omega.{arith}
use lib.ListN.{length, get_or, drop}
use lib.Seq.{drop-cons}
use Rattle.lists.specs.Lists.{concat_from}
use Rattle.text.specs.Area.{Wrote}
use Rattle.text.proofs.Writing.{then, no_bytes}
use Rattle.week_report.specs.Lines.{meeting_line}

-- the lines of the first i counts are written: p is the place after them
pub record Listed (cs b : List ℕ) (at : ℕ) (out : List ℕ) (p i : ℕ) : Type 0 where
  pub within : i ≤ length cs
  pub near : p ≤ at + 60 * i
  pub lines : List ℕ
  pub wrote : Wrote b at lines p out
  pub rest : lines ++ concat_from meeting_line i (drop i cs) ≡ concat_from meeting_line 0 cs

module _ (cs b : List ℕ) (at : ℕ) where
  pub no_lines : Listed cs b at b at 0
  no_lines = record { within = omega arith; near = omega arith; lines = []; wrote = no_bytes b at; rest = refl }

  module _ (out : List ℕ) (p i : ℕ) (l : Listed cs b at out p i) where
    pub next_line_lem : (q : ℕ) (out' : List ℕ) → i < length cs → Wrote out p (meeting_line i (get_or cs i 0)) q out' → q ≤ p + 60 → Listed cs b at out' q (i + 1)
    next_line_lem q out' h w n =
        let line : List ℕ = meeting_line i (get_or cs i 0) in
        let here : concat_from meeting_line i (drop i cs) ≡ line ++ concat_from meeting_line (i + 1) (drop (i + 1) cs) =
        ap (concat_from meeting_line i) (drop-cons cs i 0 h) ∙ ap (λ (j : ℕ). line ++ concat_from meeting_line (i + 1) (drop j cs)) (sym (add-one i)) in
        record {
          within = omega arith;
          near = omega (arith, l.near);
          lines = l.lines ++ line;
          wrote = then l.wrote w;
          rest =
              append_assoc l.lines line (concat_from meeting_line (i + 1) (drop (i + 1) cs))
              ∙ ap (λ (xs : List ℕ). l.lines ++ xs) (sym here) ∙ l.rest;
        }

-- the lines of counts that are others by name
pub same_counts : {b out : List ℕ} {at r : ℕ} (cs ds : List ℕ) → cs ≡ ds → Wrote b at (concat_from meeting_line 0 cs) r out → Wrote b at (concat_from meeting_line 0 ds) r out
same_counts {b} {out} {at} {r} cs ds e w = subst (λ (l : List ℕ). Wrote b at (concat_from meeting_line 0 l) r out) e w
