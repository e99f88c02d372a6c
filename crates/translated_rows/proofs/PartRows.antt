-- The rows that the parts of the translated task are written with are theirs.
use mathlib.Core.Path.{◌≡◌, refl, sym, ap, ◌∙◌, subst⁻¹}
use mathlib.Core.Bool.{Bool, true, false}
use mathlib.Core.List.{List, [], ◌∷◌, ◌++◌, map, append_assoc}
use Prim.Native.Nat.{ℕ, zero, suc, ◌+◌, ◌≤◌, ◌<◌}
use native.Mathlib.Omega.{arith}
use lib.ListN.{length, drop, length-drop, length-append}
use Rattle.lists.specs.Lists.{singleton, concat_map}
use Rattle.task.specs.Marks.{ACTION, EFFECT, CLAUSE, HOLDS, LACKS, ADD, DELETE}
use Rattle.meaning.specs.Task.{Action, Preference}
use Rattle.task.specs.TaskRows.{Row, row, condition_rows, effect_rows, action_rows, preference_rows}
use Rattle.task.specs.File.{paired}
use Rattle.task.specs.Rows.{between}
use Rattle.task.proofs.Passing.{effects_pass}
use Rattle.task.proofs.Bytes.{length-paired}
use Rattle.task.proofs.Reading.{passes}
use Rattle.task.proofs.Positions.{drop_next, drop_after, tail_rows, tail_stops, effects_stop, past_kinds}
use Rattle.classical.specs.Translation.{holds_fact, alone, fact_c, normal, all_trackers, source_action, end_action}
use Rattle.classical.specs.Translation.{all_closed}
use Rattle.layout.specs.Sides.{stretch, end_at}
use Rattle.layout.specs.declared.sides.Span.{Span}
use Rattle.layout.proofs.Ends.{end_after, part_is, condition_between}
use Rattle.writer.specs.Writer.{Room, Wrote, Standing}
use Rattle.writer.specs.declared.Cursor.{Cursor}
use Rattle.writer.proofs.Putting.{Onward, Kept, kept_on, then, wrote_none, wrote_full, as_rows}
use Rattle.writer.proofs.Copying.{stands, still_stands}
use Rattle.effects.specs.Effects.{single_rows}
use Rattle.trackers.specs.Trackers.{trackers_by, all_tracker_rows}
use Rattle.effects.proofs.EffectRows.{rows_append, effects_append}
use Rattle.trackers.proofs.TrackerRows.{all_are}
use Rattle.translated_rows.specs.Parts
use Rattle.translated_rows.specs.Parts.{read_task, Placed, Before, own_rows, source_actions}
use Rattle.translated_rows.specs.Parts.{preferences_to, closed_rows}

-- Source actions

-- a source action with the rows xs and then the effects ys
abbrev source_rows : ℕ → ℕ → List Row → List Row → List Preference → List Row
source_rows F N xs ys qs = xs ++ (single_rows HOLDS N ++ (ys ++ all_tracker_rows false F qs))

source_is : (F : ℕ) (qs : List Preference) (a : Action) (N : ℕ) → N ≡ normal F (length qs)
    → source_rows F N (row ACTION a.cost ∷ condition_rows a.precondition) (concat_map effect_rows a.effects) qs ≡ action_rows (source_action F qs a)
source_is F qs a N e =
    let pre : List Row = condition_rows a.precondition in
    let effects : List Row = concat_map effect_rows a.effects in
    let single : List Row = single_rows HOLDS (normal F (length qs)) in
    ap (λ (m : ℕ). source_rows F m (row ACTION a.cost ∷ pre) effects qs) e
    ∙ ap (λ (xs : List Row). row ACTION a.cost ∷ xs) (sym (append_assoc pre single (effects ++ all_tracker_rows false F qs)))
    ∙ (λ z. row ACTION a.cost ∷ (sym (rows_append a.precondition (alone (singleton (holds_fact (normal F (length qs)))))) z
    ++ sym (effects_append a.effects (all_trackers false F qs)) z))

abbrev acts_rows : ℕ → List Preference → List Action → List Row
acts_rows F qs l = concat_map action_rows (map (source_action F qs) l)

-- what holds before row j is read: the actions that are left stand from there on, and the rows t hold the trackers xs, if any
pub record Acting (ms vs : List ℕ) (F : ℕ) (xs : List Row) (b : List ℕ) (c : Cursor) (out : List ℕ) (k : Cursor) (j : ℕ) (t : Span) : Type 0 where
  pub so_far : Kept b out k
  pub before : Before out k t xs
  pub left : List Action
  pub rest : drop j (paired ms vs) ≡ tail_rows left (read_task F ms vs).preferences
  pub onward : Onward b c (source_actions ms vs F) out k (acts_rows F (read_task F ms vs).preferences left)

module _ (ms vs : List ℕ) (F from to N : ℕ) (starts : List ℕ) (placed : Placed ms vs F (record { from = from; to = to }) starts N) where
  abbrev qs : List Preference
  qs = (read_task F ms vs).preferences

  -- the trackers of all preferences
  pub tracked : (last : Bool) → trackers_by ms vs starts F last ≡ all_tracker_rows last F qs
  tracked last = all_are ms vs F last qs placed.timed to placed.prefs starts placed.begun placed.many

  abbrev tracking : List Row
  tracking = trackers_by ms vs starts F false

  module _ {b : List ℕ} {c : Cursor} {out : List ℕ} {k : Cursor} {j : ℕ} {s : Span} (t : Acting ms vs F tracking b c out k j s) where
    -- after the action's own rows the trackers of the action before stand as they stood
    pub before_own : {xs : List Row} {o : Cursor} {mid : List ℕ} → Wrote out k xs o mid → Before mid o s tracking
    before_own {xs} {o} {mid} w =
        record {
          below = omega (arith, t.before.below, w.next);
          held = λ h. subst⁻¹ (λ (n : ℕ). Standing mid n s tracking) w.same
              (still_stands (t.before.held h) refl t.before.below t.so_far.room.few w);
        }

    pub acted_on : j < to → (mid next : ℕ) → mid ≡ end_at CLAUSE LACKS ms (j + 1) → next ≡ end_at EFFECT DELETE ms mid
        → {out₁ out' : List ℕ} {o k' : Cursor} → length out' ≡ length out₁ → length out₁ ≡ length out
        → Wrote out k (own_rows ms vs (record { from = j; mid = mid; next = next }) N) o out₁ → Wrote out₁ o tracking k' out'
        → Acting ms vs F tracking b c out' k' next (record { from = o.next; to = k'.next })
    acted_on h mid next mid_at next_at {out₁} {out'} {o} {k'} same₁ same own tracks = go t.left t.rest t.onward
      where
        go : (l : List Action) → drop j (paired ms vs) ≡ tail_rows l qs → Onward b c (source_actions ms vs F) out k (acts_rows F qs l)
            → Acting ms vs F tracking b c out' k' next (record { from = o.next; to = k'.next })
        go [] e on =
            absurd (omega (
              arith,
              placed.inside,
              length-drop j (paired ms vs),
              length-drop to (paired ms vs),
              length-paired ms vs,
              ap length (e ∙ sym placed.prefs),
            ))
        go (a ∷ l) e on =
            let pre : List Row = condition_rows a.precondition in
            let effects : List Row = concat_map effect_rows a.effects in
            let more : List Row = tail_rows l qs in
            let here : drop j (paired ms vs) ≡ (row ACTION a.cost ∷ pre) ++ (effects ++ more) =
            e ∙ append_assoc (action_rows a) (concat_map action_rows l) (concat_map preference_rows qs) ∙ append_assoc (row ACTION a.cost ∷ pre) effects more in
            let after_head : drop (j + 1) (paired ms vs) ≡ pre ++ (effects ++ more) =
            drop_next j (paired ms vs) (row ACTION a.cost) (pre ++ (effects ++ more)) here in
            let mid_is : mid ≡ j + 1 + length pre =
            mid_at ∙ end_after CLAUSE LACKS ms (j + 1) vs pre (effects ++ more) after_head (condition_between a.precondition)
            (effects_stop (between CLAUSE LACKS) refl a.effects (tail_rows l qs) (tail_stops (between CLAUSE LACKS) (past_kinds (between CLAUSE LACKS) tt) refl l qs)) in
            let after_pre : drop mid (paired ms vs) ≡ effects ++ more =
            ap (λ (n : ℕ). drop n (paired ms vs)) mid_is ∙ drop_after (j + 1) (paired ms vs) pre (effects ++ more) after_head in
            let next_is : next ≡ mid + length effects =
            next_at ∙ end_after EFFECT DELETE ms mid vs effects more after_pre
            (effects_pass (passes (between EFFECT DELETE)) (λ v. tt) (λ v. tt) (λ v. tt) (λ v. tt) (λ v. tt) (λ v. tt) a.effects)
            (tail_stops (between EFFECT DELETE) (past_kinds (between EFFECT DELETE) tt) refl l qs) in
            let first : stretch ms vs j mid ≡ row ACTION a.cost ∷ pre =
            part_is ms vs j mid (row ACTION a.cost ∷ pre) (effects ++ more) here (omega (arith, mid_is)) in
            let second : stretch ms vs mid next ≡ effects = part_is ms vs mid next effects more after_pre next_is in
            let w : Wrote out k (own_rows ms vs (record { from = j; mid = mid; next = next }) N ++ tracking) k' out' = then own tracks in
            let grouped : own_rows ms vs (record { from = j; mid = mid; next = next }) N ++ tracking
            ≡ stretch ms vs j mid ++ (single_rows HOLDS N ++ (stretch ms vs mid next ++ tracking)) =
            append_assoc (stretch ms vs j mid) (single_rows HOLDS N ++ stretch ms vs mid next) tracking
            ∙ ap (λ (ys : List Row). stretch ms vs j mid ++ ys) (append_assoc (single_rows HOLDS N) (stretch ms vs mid next) tracking) in
            record {
              so_far = kept_on t.so_far (same₁ ∙ same) w;
              before = record {
                below = omega arith;
                held = λ u. subst⁻¹ (λ (n : ℕ). Standing out' n (record { from = o.next; to = k'.next }) tracking) tracks.same (stands tracks);
              };
              left = l;
              rest = ap (λ (n : ℕ). drop n (paired ms vs)) next_is ∙ drop_after mid (paired ms vs) effects more after_pre;
              onward = λ x o v. on x o
                  (then (as_rows (grouped ∙ (λ z. first z ++ (single_rows HOLDS N ++ (second z ++ tracked false z))) ∙ source_is F qs a N placed.normal_is) w) v);
            }

    pub acted_all : to ≤ j → Wrote b c (source_actions ms vs F) k out
    acted_all h = go t.left t.rest t.onward
      where
        go : (l : List Action) → drop j (paired ms vs) ≡ tail_rows l qs → Onward b c (source_actions ms vs F) out k (acts_rows F qs l) → Wrote b c (source_actions ms vs F) k out
        go [] e on = on k out (wrote_none t.so_far.room)
        go (a ∷ l) e on =
            absurd (omega (
              arith,
              length-drop j (paired ms vs),
              length-drop to (paired ms vs),
              ap length e,
              ap length placed.prefs,
              length-append (concat_map action_rows (a ∷ l)) (concat_map preference_rows qs),
            ))

    pub acted_full : 12001 ≤ k.next → Wrote b c (source_actions ms vs F) k out
    acted_full h = t.onward k out (wrote_full (acts_rows F qs t.left) t.so_far.room h)

  -- End

  pub end_is : Parts.end_at ms vs starts F N ≡ action_rows (end_action F qs)
  end_is =
      λ z. row ACTION 0 ∷ single_rows HOLDS (placed.normal_is z)
      ++ (row EFFECT 0 ∷ row ADD (placed.normal_is z + 1) ∷ row DELETE (placed.normal_is z) ∷ tracked true z)

-- The goal's clauses

pub closed_is : (F k : ℕ) (qs : List Preference) → closed_rows F k (length qs) ≡ condition_rows (all_closed F k qs)
closed_is F k [] = refl
closed_is F k (q ∷ qs) = ap (λ (xs : List Row). single_rows HOLDS (fact_c F k) ++ xs) (closed_is F (k + 1) qs)

-- C of so many preferences from number k on is still to be written; the next is fact c
pub record Ending (F m : ℕ) (b₀ : List ℕ) (c₀ : Cursor) (out : List ℕ) (k : Cursor) (c : ℕ) : Type 0 where
  pub number : ℕ
  pub left : ℕ
  pub fact : c ≡ fact_c F number
  pub together : number + left ≡ m
  pub onward : Onward b₀ c₀ (closed_rows F 0 m) out k (closed_rows F number left)

pub record AllClosing (F E : ℕ) (b₀ : List ℕ) (c₀ : Cursor) (out : List ℕ) (k : Cursor) (c : ℕ) : Type 0 where
  pub kept : Kept b₀ out k
  pub so_far : Ending F (preferences_to F E) b₀ c₀ out k c

module _ (F E : ℕ) {b₀ : List ℕ} {c₀ : Cursor} {out : List ℕ} {k : Cursor} {c : ℕ} where
  pub ending_on : c < E → {out' : List ℕ} {r' : Cursor} → Wrote out k (single_rows HOLDS c) r' out'
      → Ending F (preferences_to F E) b₀ c₀ out k c → Ending F (preferences_to F E) b₀ c₀ out' r' (c + 3)
  ending_on h {out'} {r'} w t = go t.left t.together t.onward
    where
      go : (l : ℕ) → t.number + l ≡ (preferences_to F E) → Onward b₀ c₀ (closed_rows F 0 (preferences_to F E)) out k (closed_rows F t.number l) → Ending F (preferences_to F E) b₀ c₀ out' r' (c + 3)
      go zero e on = absurd (omega (arith, t.fact))
      go (suc l) e on =
          record {
            number = t.number + 1;
            left = l;
            fact = omega (arith, t.fact);
            together = omega arith;
            onward = λ x o u. on x o (then (as_rows (ap (single_rows HOLDS) t.fact) w) u);
          }

  pub ending_all : Room k out → E ≤ c → Ending F (preferences_to F E) b₀ c₀ out k c → Wrote b₀ c₀ (closed_rows F 0 (preferences_to F E)) k out
  ending_all room h t = go t.left t.together t.onward
    where
      go : (l : ℕ) → t.number + l ≡ (preferences_to F E) → Onward b₀ c₀ (closed_rows F 0 (preferences_to F E)) out k (closed_rows F t.number l) → Wrote b₀ c₀ (closed_rows F 0 (preferences_to F E)) k out
      go zero e on = on k out (wrote_none room)
      go (suc l) e on = absurd (omega (arith, t.fact))

  pub ending_full : Room k out → 12001 ≤ k.next → Ending F (preferences_to F E) b₀ c₀ out k c → Wrote b₀ c₀ (closed_rows F 0 (preferences_to F E)) k out
  ending_full room h t = t.onward k out (wrote_full (closed_rows F t.number t.left) room h)
