-- Each mark has the rows of its kind, by one law for each.
use mathlib.Core.Path.{sym, ap, ◌∙◌}
use Prim.Native.Nat.{ℕ}
use Rattle.layout.specs.Sides.{part}
use Rattle.kind_trackers.specs.Rows.{within_rows, soon_rows}
use Rattle.writer.proofs.Putting.{as_rows, wrote_none}
use Rattle.trackers.proofs.ByMark.{by_always, by_once, by_before, by_after, by_within, by_soon, by_reached, by_below, by_above}
use borrow.Author.Rules.{rules}
use Rattle.trackers.proofs.trackers_of.Goals as goal

pub returns-in-10 : goal.returns-in-10
returns-in-10 c =
    as_rows (by_always _ _ _ _ _ _ (sym c.soft_mark-mark.ensures ∙ c.in-10.is)) c.always.ensures

pub returns-in-13 : goal.returns-in-13
returns-in-13 c =
    as_rows (by_once _ _ _ _ _ _ (sym c.soft_mark-mark.ensures ∙ c.in-13.is)) c.at_most_once.ensures

pub returns-in-14 : goal.returns-in-14
returns-in-14 c =
    as_rows (by_before _ _ _ _ _ _ (sym c.soft_mark-mark.ensures ∙ c.in-14.is)) c.sometime_before.ensures

pub returns-in-15 : goal.returns-in-15
returns-in-15 c =
    as_rows (by_after _ _ _ _ _ _ (sym c.soft_mark-mark.ensures ∙ c.in-15.is)) c.sometime_after.ensures

pub returns-in-17 : goal.returns-in-17
returns-in-17 c =
    let a = c.args in
    let xs = part a.rows.now.marks.now a.rows.now.values.now a.p.first in
    let ys = part a.rows.now.marks.now a.rows.now.values.now a.p.second in
    as_rows
    (ap (λ (n : ℕ). within_rows a.f n xs ys) c.steps_of-steps.ensures.0 ∙ by_within _ _ _ _ _ _ (sym c.soft_mark-mark.ensures ∙ c.in-17.is))
    c.within.ensures

pub returns-in-18 : goal.returns-in-18
returns-in-18 c =
    let a = c.args in
    let xs = part a.rows.now.marks.now a.rows.now.values.now a.p.first in
    let ys = part a.rows.now.marks.now a.rows.now.values.now a.p.second in
    as_rows
    (ap (λ (n : ℕ). soon_rows a.f n xs ys) c.steps_of-steps-in-18.ensures.0 ∙ by_soon _ _ _ _ _ _ (sym c.soft_mark-mark.ensures ∙ c.in-18.is))
    c.always_within.ensures

pub returns-in-11-to-12 : goal.returns-in-11-to-12
returns-in-11-to-12 c =
    let m = c.soft_mark-mark in
    rw (← m.ensures)
    (as_rows (by_reached m.result _ _ _ _ _ c.in-11-to-12.if-mark-lt10-own.false c.in-11-to-12.in_default-own.rest.0.0.0.0.0.1 c.in-11-to-12.if-mark-lt13-own.true) c.reached.ensures)

pub returns-in_default : goal.returns-in_default
returns-in_default c =
    let a = c.args in
    as_rows (by_below _ _ _ _ _ _ (λ x. c.in_default.in_default-own.rest.0.0.0.0.0.1 (c.soft_mark-mark.ensures ∙ x)) (search rules)) (wrote_none (search rules))

pub returns-in_default-2 : goal.returns-in_default-2
returns-in_default-2 c =
    let a = c.args in
    let r = c.in_default.in_default-own.rest in
    let e = c.soft_mark-mark.ensures in
    as_rows (by_above _ _ _ _ _ _ (λ x. r.0.0.0.0.1 (e ∙ x)) (λ x. r.0.0.0.1 (e ∙ x)) (λ x. r.0.0.1 (e ∙ x)) (λ x. r.0.1 (e ∙ x)) (λ x. r.1 (e ∙ x)) (search rules))
    (wrote_none (search rules))
