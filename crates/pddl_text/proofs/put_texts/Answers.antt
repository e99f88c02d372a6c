-- Where both areas are enough for every text, both texts fit, by the lengths written; else they are counted first, and where one is too long
-- nothing is written, by `too_short`.
use mathlib.Core.Path.{sym, ap, ◌∙◌}
use native.Mathlib.Omega.{arith}
use Rattle.std.specs.Prelude.{Err}
use Rattle.pddl_text.specs.Answers.{answer}
use lib.Dec.{leb}
use lib.ListN.{length}
use borrow.Author.Tests.{leb-true}
use Rattle.lists.proofs.Tests.{both_true}
use Rattle.pddl_text.specs.Outcomes.{domain_after, problem_after}
use Rattle.pddl_text.proofs.Answering.{too_short, put_down, counted_fit}
use borrow.Author.Rules.{rules}
use Rattle.pddl_text.proofs.put_texts.Goals as goal

pub put_both-requires : goal.put_both-requires
put_both-requires c =
    let (t, same, spelled, short) = c.requires.1 in
    (search rules, (t, same, spelled))

pub returns-then-domain-problem : goal.returns-then-domain-problem
returns-then-domain-problem c =
    let a = c.args in
    let (t₀, same₀, spelled₀, short) = c.requires.1 in
    let (d_enough, p_enough) = both_true (leb 262144 (length a.domain.now)) (leb 262144 (length a.problem.now)) c.if-domain-problem.true in
    let put = c.put_both.ensures in
    let parts = put_down a.facts a.rows.now.marks.now a.rows.now.values.now a.domain.now a.problem.now c.put_both.result put.of_task put.of_task_2
    (λ t same spelled. (
      omega (arith, (put.of_task t same spelled).size, (put.of_task t₀ same₀ spelled₀).size, short.0, leb-true 262144 (length a.domain.now) d_enough),
      omega (arith, (put.of_task_2 t same spelled).size, (put.of_task_2 t₀ same₀ spelled₀).size, short.1, leb-true 262144 (length a.problem.now) p_enough),
    )) in
    record { of_task = parts.0; of_task_2 = parts.1.0; of_task_3 = parts.1.1 }

pub both_fit-requires : goal.both_fit-requires
both_fit-requires c =
    let (t, same, spelled, short) = c.requires.1 in
    (search rules, (t, same, spelled))

pub returns-then-not-both_fit : goal.returns-then-not-both_fit
returns-then-not-both_fit c =
    let a = c.args in
    let r = ap (λ f. answer (Err f)) c.at.ensures in
    record {
      of_task = λ t same spelled. r ∙ too_short t a.domain.now a.problem.now (c.both_fit.ensures t same spelled) c.if-not-both_fit.true-raw;
      of_task_2 = λ t same spelled. sym (ap (domain_after t a.domain.now) r);
      of_task_3 = λ t same spelled. sym (ap (problem_after t a.problem.now) r);
    }

pub put_both-requires-2 : goal.put_both-requires-2
put_both-requires-2 c =
    let (t, same, spelled, short) = c.requires.1 in
    (search rules, (t, same, spelled))

pub returns : goal.returns
returns c =
    let a = c.args in
    let put = c.put_both-2.ensures in
    let parts = put_down a.facts a.rows.now.marks.now a.rows.now.values.now a.domain.now a.problem.now c.put_both-2.result put.of_task put.of_task_2
    (λ t same spelled. counted_fit t a.domain.now a.problem.now (c.both_fit.ensures t same spelled) c.if-not-both_fit.false-raw) in
    record { of_task = parts.0; of_task_2 = parts.1.0; of_task_3 = parts.1.1 }
