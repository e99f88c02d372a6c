-- A source action or end, which every monitor sees, or the closing of a rule, by `Leading`.
use borrow.Author.Rules.{rules}
use borrow.Author.Tests.{not-true, not-false, eq-eqb, ne_eqb}
use mathlib.Core.Path.{refl, sym, ◌∙◌, subst}
use mathlib.Core.List.{List}
use Prim.Native.Nat.{ℕ, ◌<◌}
use native.Mathlib.Omega.{arith}
use lib.ListN.{length, get_or}
use Rattle.meaning.specs.Task.{Task}
use Rattle.layout.specs.Actions.{ActionAt}
use Rattle.monitors.proofs.TaskRead.{preferences_there}
use Rattle.plan.proofs.Running.{known}
use Rattle.lost_run.specs.Run.{Setting}
use Rattle.lost_run.proofs.Leading.{beyond, Seen, ends, steps}
use Rattle.lost_run.proofs.taking.take.Goals as goal

-- row `starts[j]` opens action j
action : (ms vs : List ℕ) (at : ℕ) (starts rules : List ℕ) (t : Task) → Setting ms vs at starts rules t → (j : ℕ) → j < length starts
    → ActionAt ms vs (get_or starts j 0) t j
action ms vs at starts rules t G j h =
    let l : j < length t.actions = subst (λ (n : ℕ). j < n) G.all_actions h in
    record { spells = G.spells; known = l; begins = G.actions j l }

pub returns-then-not-p : goal.returns-then-not-p
returns-then-not-p c = record {
  little = c.close_next.ensures.little;
  taken_as = λ t q G S. c.close_next.ensures.taken_as t q G.all_rules
      (record { stands = S; over = sym S.running ∙ not-true _ c.if-not-p.true; actions = G.all_actions });
}

pub returns-then-actions-j : goal.returns-then-actions-j
returns-then-actions-j c =
    let a = c.args in record {
      little = tt;
      taken_as = λ t q G S. beyond t a.ms.now a.ms.now a.p q S (sym S.running ∙ not-false _ c.if-not-p.false) a.j
          (omega (arith, G.all_actions, c.if-actions-j.true));
    }

pub watch-requires : goal.watch-requires
watch-requires c =
    let a = c.args in
    let t = c.requires.setting.0 in
    let G = c.requires.setting.1 in
    record {
      rows = search rules;
      some_preferences = (t.preferences, preferences_there t a.rows.now.marks.now a.rows.now.values.now G.spells a.at G.preferences);
    }

pub shape_of-ms-then-j-actions : goal.shape_of-ms-then-j-actions
shape_of-ms-then-j-actions c = c.watch.auto.ms

pub returns-then-j-actions : goal.returns-then-j-actions
returns-then-j-actions c =
    let a = c.args in record {
      little = omega arith;
      taken_as = λ t q G S.
          let l' = c.watch.new.ms in
          let on = sym S.running ∙ not-false _ c.if-not-p.false in
          let W = c.watch.ensures.for_preferences t.preferences (preferences_there t a.rows.now.marks.now a.rows.now.values.now G.spells a.at G.preferences) in
          ends t a.ms.now l' a.p q S on a.j (omega (arith, G.all_actions, c.if-j-actions.true))
          (subst (Seen t a.ms.now l' a.p q S on a.j) (eq-eqb a.j (length a.starts.now) c.if-j-actions.true) W.monitors);
    }

pub step-requires : goal.step-requires
step-requires c =
    let a = c.args in
    let t = c.requires.setting.0 in
    let G = c.requires.setting.1 in
    let j = a.j in
    let h : j < length a.starts.now = omega (arith, c.if-actions-j.false, c.if-j-actions.false) in record {
      rows = (known (length a.rows.now.marks.now) a.starts.now c.requires.rows.2 j h _ refl, search rules);
      some_action = (t, j, action a.rows.now.marks.now a.rows.now.values.now a.at a.starts.now a.rules.now t G j h);
    }

pub shape_of-ms : goal.shape_of-ms
shape_of-ms c = c.watch.auto.ms

pub returns : goal.returns
returns c =
    let a = c.args in
    let j = a.j in
    let h : j < length a.starts.now = omega (arith, c.if-actions-j.false, c.if-j-actions.false) in record {
      little = c.step.ensures.little;
      taken_as = λ t q G S.
          let l' = c.watch.new.ms in
          let on = sym S.running ∙ not-false _ c.if-not-p.false in
          let W = c.watch.ensures.for_preferences t.preferences (preferences_there t a.rows.now.marks.now a.rows.now.values.now G.spells a.at G.preferences) in
          steps t a.ms.now l' a.p q S on j (omega (arith, G.all_actions, h))
          (subst (Seen t a.ms.now l' a.p q S on j) (ne_eqb j (length a.starts.now) c.if-j-actions.false) W.monitors)
          c.step.result (c.step.ensures.stepped_as t j (action a.rows.now.marks.now a.rows.now.values.now a.at a.starts.now a.rules.now t G j h));
    }
