-- Document 01's attacks and request 8's, refuted: for each wrong translator a source task on which faithfulness (demand 3) fails.
use mathlib.Core.Path.{◌≡◌, refl, subst, subst⁻¹}
use mathlib.Core.Bool.{Bool, true, false, not, ◌&&◌, ◌||◌}
use mathlib.Core.List.{List, [], ◌∷◌}
use Prim.Native.Nat.{ℕ, zero, suc, ◌<◌}
use lib.Dec.{T, eqb, eqb_refl, ltb, ltb→lt}
use lib.ListN.{length}
use Rattle.lists.specs.Lists.{singleton, all}
use Rattle.meaning.specs.Task.{Kind, always, sometime, at_most_once, sometime_before, within, always_within, Condition, Action, Preference, Task, well_formed}
use Rattle.task.specs.File.{file_of}
use Rattle.task.specs.Check.{Answer, accepted, refused, check, check_rows}
use Rattle.meaning.specs.Meaning.{State, is_true, opening, after, no_action, action_at, applies, keeps_rules, solves, cost, metric}
use Rattle.classical.specs.Translation.{holds_fact, alone, effect, translated}
use Rattle.classical.specs.Claim.{Faithful, source_part}
use Rattle.lists.proofs.Tests.{and_left, and_right, all_at, denied}
use Rattle.classical.proofs.Runs.{wins, solves_win}
use Rattle.classical.proofs.Faithful.{faithful}
use Rattle.classical.proofs.Wrong.{Translator, translated_by, opens, in_source, in_end, ends, forgone, right}
use Rattle.classical.proofs.Wrong.{fixed, never_ends, opening_only, follows_first, last_only, all_but_last, reads_reached}
use Rattle.classical.proofs.Wrong.{counts_states, forgo_met, own_state, denied_at_once, one_step_less, one_step_more, late_forgiven, forgo_hard, softened}

-- What shows that a task c is not faithful to a source s, and the test that it does

pub data Evidence : Type 0 where
  -- a list that solves c at a cost which is not its source part's metric
  mispriced : List ℕ → Evidence
  -- a plan that solves s, where nothing solves c
  unsolved : List ℕ → Evidence
  -- a list that solves c, where its source part does not solve s
  unearned : List ℕ → Evidence

-- the goal fails in s and after every action that applies there, n deep at most, where no action applies any more
abbrev pub dead : Task → ℕ → State → Bool
dead c zero s = false
dead c (suc n) s =
    not (is_true s c.goal) && all (λ (a : Action). not (is_true s a.precondition) || dead c n (after s a)) c.actions

abbrev pub shows : Task → Task → Evidence → Bool
shows s c (mispriced x) = solves c x && not (eqb (cost c x) (metric s (source_part s x)))
shows s c (unsolved p) = solves s p && dead c 2 (opening c)
shows s c (unearned x) = solves c x && not (solves s (source_part s x))

-- The table

pub record Attack : Type 0 where
  pub translator : Translator
  pub source : Task
  pub evidence : Evidence

abbrev attack : Translator → Task → Evidence → Attack
attack w s e = record { translator = w; source = s; evidence = e }

abbrev pub is_accepted : Answer → Bool
is_accepted (accepted z) = true
is_accepted (refused n p) = false

-- a source without actions
abbrev still : Task
still = record { facts = 1; start = []; goal = []; actions = []; preferences = [] }

-- a source where fact 1 holds throughout and action 0 adds fact 0, at no cost: plan 0 visits a state without fact 0 and one with it
abbrev lit : List Preference → Task
lit ps =
    record {
      facts = 2;
      start = singleton 1;
      goal = [];
      actions = singleton (record { cost = 0; precondition = []; effects = singleton (effect [] (singleton 0) []) });
      preferences = ps;
    }

-- of weight 1
abbrev rule : Kind → Condition → Condition → Preference
rule k φ ψ = record { kind = k; hard = false; weight = 1; first = φ; second = ψ }

abbrev hard_rule : Kind → Condition → Condition → Preference
hard_rule k φ ψ = record { kind = k; hard = true; weight = 0; first = φ; second = ψ }

abbrev fact0 : Condition
fact0 = alone (singleton (holds_fact 0))

-- In the translation of lit, 1 is end, 2 and 3 are collect and forgo of preference 0, 4 and 5 those of preference 1
abbrev pub attacks : List Attack
attacks =
    attack fixed still (unsolved [])
    ∷ attack never_ends still (unsolved [])
    ∷ attack opening_only (lit (singleton (rule sometime fact0 []))) (mispriced (0 ∷ 1 ∷ 3 ∷ []))
    ∷ attack follows_first (lit (rule sometime fact0 [] ∷ rule always fact0 [] ∷ [])) (mispriced (0 ∷ 1 ∷ 2 ∷ 4 ∷ []))
    ∷ attack last_only (lit (singleton (rule always fact0 []))) (mispriced (0 ∷ 1 ∷ 2 ∷ []))
    ∷ attack all_but_last (lit (singleton (rule sometime fact0 []))) (mispriced (0 ∷ 1 ∷ 3 ∷ []))
    ∷ attack reads_reached (lit (singleton (rule always fact0 []))) (mispriced (0 ∷ 1 ∷ 2 ∷ []))
    ∷ attack counts_states (lit (singleton (rule at_most_once fact0 []))) (mispriced (0 ∷ 0 ∷ 1 ∷ 3 ∷ []))
    ∷ attack forgo_met (lit (singleton (rule sometime fact0 []))) (mispriced (0 ∷ 1 ∷ 3 ∷ []))
    ∷ attack own_state (lit (singleton (rule sometime_before fact0 fact0))) (mispriced (0 ∷ 1 ∷ 2 ∷ []))
    ∷ attack denied_at_once (lit (singleton (rule always (alone (holds_fact 0 ∷ holds_fact 1 ∷ [])) []))) (mispriced (1 ∷ 2 ∷ []))
    ∷ attack one_step_less (lit (singleton (rule (within 1) fact0 []))) (mispriced (0 ∷ 1 ∷ 3 ∷ []))
    ∷ attack one_step_more (lit (singleton (rule (always_within 0) [] fact0))) (mispriced (0 ∷ 1 ∷ 2 ∷ []))
    ∷ attack late_forgiven (lit (singleton (rule (always_within 0) [] fact0))) (mispriced (0 ∷ 1 ∷ 2 ∷ []))
    ∷ attack forgo_hard (lit (singleton (hard_rule always fact0 []))) (unearned (0 ∷ 1 ∷ 3 ∷ []))
    ∷ attack softened (lit (singleton (hard_rule sometime fact0 []))) (unearned (1 ∷ 3 ∷ []))
    ∷ []

-- What the evidence means

-- nothing wins from a dead state
never_wins : (c : Task) (n : ℕ) (s : State) → T (dead c n s) → (x : List ℕ) → T (wins c s x) → ⊥
never_wins c zero s d x w = d
never_wins c (suc n) s d [] w = denied (is_true s c.goal) (and_left (not (is_true s c.goal)) _ d) w
never_wins c (suc n) s d (k ∷ ks) w =
    let a : Action = action_at c k in
    let here : T (applies c s k) = and_left (applies c s k) _ w in
    let rest : T (wins c (after s a) ks) = and_right (applies c s k) _ w in
    let below : k < length c.actions = ltb→lt k (length c.actions) (and_left (ltb k (length c.actions)) _ here) in
    let stays : T (not (is_true s a.precondition) || dead c n (after s a)) =
    all_at (λ (a : Action). not (is_true s a.precondition) || dead c n (after s a)) c.actions k no_action
    (and_right (not (is_true s c.goal)) _ d) below in
    never_wins c n (after s a) (given (is_true s a.precondition) (dead c n (after s a)) (and_right (ltb k (length c.actions)) _ here) stays) ks rest
  where
    given : (b d : Bool) → T b → T (not b || d) → T d
    given true d t h = h
    given false d t h = absurd t

unfaithful : (s c : Task) (e : Evidence) → T (shows s c e) → Faithful s c → ⊥
unfaithful s c (mispriced x) h f =
    let solved : T (solves c x) = and_left (solves c x) _ h in
    denied (eqb (cost c x) (metric s (source_part s x))) (and_right (solves c x) _ h)
    (subst (λ (m : ℕ). T (eqb (cost c x) m)) (f.cost_preserved x solved) (eqb_refl (cost c x)))
unfaithful s c (unsolved p) h f =
    let x : (x : List ℕ) × T (solves c x) × (source_part s x ≡ p) = (f.onto p).1 (and_left (solves s p) _ h) in
    let won : T (wins c (opening c) x.0) = and_left (wins c (opening c) x.0) (keeps_rules c x.0) (subst T (solves_win c x.0) x.1) in
    never_wins c 2 (opening c) (and_right (solves s p) _ h) x.0 won
unfaithful s c (unearned x) h f =
    denied (solves s (source_part s x)) (and_right (solves c x) _ h) ((f.onto (source_part s x)).0 (x, and_left (solves c x) _ h, refl))

-- The claim

abbrev pub Each : (Attack → Type 0) → List Attack → Type 0
Each P [] = Unit
Each P (a ∷ rest) = P a × Each P rest

-- check accepts the source's file, and the translation is not faithful to the source
abbrev pub Refuted : Attack → Type 0
Refuted a = T (is_accepted (check (file_of a.source))) × (Faithful a.source (a.translator a.source) → ⊥)

abbrev shown : Attack → Bool
shown a = is_accepted (check (file_of a.source)) && shows a.source (a.translator a.source) a.evidence

by_evidence : (rows : List Attack) → T (all shown rows) → Each Refuted rows
by_evidence [] h = tt
by_evidence (a ∷ rest) h =
    let taken : Bool = is_accepted (check (file_of a.source)) in
    let here : T (shown a) = and_left (shown a) _ h in
    let no : Faithful a.source (a.translator a.source) → ⊥ =
    unfaithful a.source (a.translator a.source) a.evidence (and_right taken _ here) in
    ((and_left taken _ here, no), by_evidence rest (and_right (shown a) _ h))

pub refuted : Each Refuted attacks
unfolding check check_rows translated
refuted = by_evidence attacks tt

-- With the right parts the same builder is faithful
pub right_faithful : (t : Task) → T (well_formed t) → Faithful t (translated_by opens in_source in_end ends forgone t)
right_faithful t wf = subst⁻¹ (Faithful t) (right t) (faithful t wf)
