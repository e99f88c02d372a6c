-- The loop over preferences that writes their trackers.
use mathlib.Core.Path.{◌≡◌, sym, ap, ◌∙◌}
use mathlib.Core.Bool.{Bool}
use mathlib.Core.List.{List, ◌∷◌, ◌++◌}
use Prim.Native.Nat.{ℕ, ◌+◌, ◌*◌, ◌≤◌, ◌<◌}
use native.Mathlib.Numerals.{add-one}
use native.Mathlib.Omega.{arith}
use lib.ListN.{length, drop, get_or, drop_of_length-le}
use lib.Seq.{drop-cons}
use Rattle.writer.specs.Writer.{Wrote}
use Rattle.writer.specs.declared.Cursor.{Cursor}
use Rattle.writer.proofs.Putting.{Onward, Kept, kept_on, then, as_rows, wrote_none, wrote_full}
use Rattle.trackers.specs.Trackers.{facts_from, trackers_at, further_at, trackers_from}

-- what holds before preference i is read, whose facts begin with s, d being the fact before its D1
pub record Tracking (ms vs : List ℕ) (last : Bool) (starts b : List ℕ) (c : Cursor) (s₀ d₀ : ℕ) (out : List ℕ) (k : Cursor) (s d i : ℕ) : Type 0 where
  pub so_far : Kept b out k
  pub fact : s ≡ s₀ + 3 * i
  pub within : i ≤ length starts
  pub few : d ≤ d₀ + 256 * i
  pub onward : Onward b c (trackers_from ms vs last starts s₀ d₀) out k (trackers_from ms vs last (drop i starts) s d)

module _ (ms vs : List ℕ) (last : Bool) (starts : List ℕ) {b : List ℕ} {c : Cursor} {s₀ d₀ : ℕ} {out : List ℕ} {k : Cursor} {s d i : ℕ}
    (t : Tracking ms vs last starts b c s₀ d₀ out k s d i) where
  pub tracked_on : i < length starts → {out' : List ℕ} {k' : Cursor} {r : ℕ} → length out' ≡ length out
      → Wrote out k (trackers_at ms vs (get_or starts i 0) (facts_from s d) last) k' out' → (r ≡ further_at ms vs (get_or starts i 0)) × (r ≤ 256)
      → Tracking ms vs last starts b c s₀ d₀ out' k' (s + 3) (d + r) (i + 1)
  tracked_on l {out'} {k'} {r} same w f =
      let at : ℕ = get_or starts i 0 in
      let e : drop i starts ≡ at ∷ drop (i + 1) starts = drop-cons starts i 0 l ∙ ap (λ (n : ℕ). at ∷ drop n starts) (sym (add-one i)) in
      record {
        so_far = kept_on t.so_far same w;
        fact = omega (arith, t.fact);
        within = omega arith;
        few = omega (arith, t.few, f.1);
        onward = λ x o v. t.onward x o
            (as_rows (ap (λ (n : ℕ). trackers_at ms vs at (facts_from s d) last ++ trackers_from ms vs last (drop (i + 1) starts) (s + 3) (d + n)) f.0
            ∙ ap (λ (l : List ℕ). trackers_from ms vs last l s d) (sym e))
            (then w v));
      }

  pub tracked_all : length starts ≤ i → Wrote b c (trackers_from ms vs last starts s₀ d₀) k out
  tracked_all h =
      t.onward k out (as_rows (ap (λ (l : List ℕ). trackers_from ms vs last l s d) (sym (drop_of_length-le starts {i = i} h))) (wrote_none t.so_far.room))

  pub tracked_full : 12001 ≤ k.next → Wrote b c (trackers_from ms vs last starts s₀ d₀) k out
  tracked_full l = t.onward k out (wrote_full (trackers_from ms vs last (drop i starts) s d) t.so_far.room l)
