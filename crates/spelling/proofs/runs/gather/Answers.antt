use borrow.Author.Rules.{rules}
use borrow.Author.Tests.{not-true, not-false}
use mathlib.Core.Path.{◌≡◌, sym, ap, ◌∙◌}
use Prim.Native.Nat.{◌+◌}
use lib.Dec.{eqb}
use lib.ListN.{get_or}
use Rattle.task.specs.Rows.{between}
use Rattle.task.proofs.Reading.{goes_on, stops_at, ends_at}
use Rattle.state.proofs.Words.{no_facts}
use Rattle.spelling.specs.Runs.{sets_in, with_fact, take_in, ended, gather_at}
use Rattle.spelling.proofs.runs.gather.Goals as goal

pub loop-i-init : goal.loop-i-init
loop-i-init c =
    let a = c.args in
    (λ i. gather_at a.a a.b (record { first = no_facts i; second = no_facts i }) a.rows.now.marks.now a.rows.now.values.now a.from, search rules, search rules)

pub returns-then-not-in_run : goal.returns-then-not-in_run
returns-then-not-in_run c =
    let a = c.args in
    c.run_of.ensures
    ∙ sym (stops_at (take_in a.a) (between a.a a.b) ended (sets_in c.loop-i.words) a.rows.now.marks.now a.rows.now.values.now c.loop-i.i
    (search rules) (sym c.in_run.ensures ∙ not-true c.in_run.result c.if-not-in_run.true-raw))
    ∙ c.loop-i.invariant.0

pub loop-i-preserved : goal.loop-i-preserved
loop-i-preserved c =
    let a = c.args in
    let ms = a.rows.now.marks.now in
    let vs = a.rows.now.values.now in
    let i = c.loop-i.i in
    let ws = c.loop-i.words in
    let m = get_or ms i 0 in (
      (λ z. gather_at a.a a.b ((c.take_in.ensures ∙ ap (with_fact (eqb m a.a) (sets_in ws)) c.value.ensures) z) ms vs (i + 1))
          ∙ sym (goes_on (take_in a.a) (between a.a a.b) ended (sets_in ws) ms vs i
          (search rules) (sym c.in_run.ensures ∙ not-false c.in_run.result c.if-not-in_run.false-raw))
          ∙ c.loop-i.invariant.0,
      c.take_in.auto.words ∙ c.loop-i.invariant.1,
      search rules,
    )

pub returns : goal.returns
returns c =
    let a = c.args in
    let e : c.max.result ≡ c.loop-i.i = search rules in
    c.run_of-2.ensures
    ∙ ap (ended (sets_in c.loop-i.words)) e
    ∙ sym (ends_at (take_in a.a) (between a.a a.b) ended (sets_in c.loop-i.words) a.rows.now.marks.now a.rows.now.values.now c.loop-i.i (search rules))
    ∙ c.loop-i.invariant.0
