-- Each arm tests the value as value_allowed does for its marks: of_action to of_other of Values, with its laws of ranges.
use borrow.Author.Rules.{rules}
use mathlib.Core.Path.{sym}
use native.Mathlib.Omega.{arith}
use Rattle.task.proofs.Values.{of_action, of_start, of_fact, of_preference, of_steps, of_other, preference, timed, under, between, over}
use Rattle.task.specs.Marks.{HOLDS, GOAL}
use Rattle.task.specs.File.{opens_soft}
use mathlib.Core.Path.{◌≡◌}
use mathlib.Core.Bool.{true, false}
use Prim.Native.Nat.{◌≤◌, ◌<◌}
use Rattle.task.proofs.value_allowed.Goals as goal
use Rattle.task.proofs.value_allowed.Goals.{then-mark-lt16, else-mark-lt16+else-mark-lt17+then-mark-lt19, in_default-via-then-mark-lt4, in_default-via-else-mark-lt4+else-mark-lt8+then-mark-lt9, in_default-via-else-mark-lt4+else-mark-lt8+else-mark-lt9+else-mark-lt16+then-mark-lt17, in_default-via-else-mark-lt4+else-mark-lt8+else-mark-lt9+else-mark-lt16+else-mark-lt17+else-mark-lt19}

pub returns-in-1 : goal.returns-in-1
returns-in-1 c =
    let a = c.args in
    sym (of_action a.facts a.floor a.mark a.value c.in-1.is)

pub returns-in-9 : goal.returns-in-9
returns-in-9 c =
    let a = c.args in
    sym (of_start a.facts a.floor a.mark a.value c.in-9.is)

pub returns-in-19 : goal.returns-in-19
returns-in-19 c =
    let a = c.args in
    sym (of_steps a.facts a.floor a.mark a.value c.in-19.is)

pub returns-in-4 : goal.returns-in-4
returns-in-4 c =
    let a = c.args in
    sym (of_fact a.facts a.floor a.mark a.value (search rules) (search rules))

pub returns-in-10-to-15 : goal.returns-in-10-to-15
returns-in-10-to-15 c =
    let a = c.args in
    let soft : opens_soft a.mark ≡ true = elim c.in-10-to-15-1.branch [
      | then-mark-lt16 w ↦ preference a.mark (search rules) (omega arith)
      | else-mark-lt16+else-mark-lt17+then-mark-lt19 w ↦ timed a.mark (omega arith) (omega arith)
    ] in
    sym (of_preference a.facts a.floor a.mark a.value soft)

pub returns-in_default : goal.returns-in_default
returns-in_default c =
    let a = c.args in
    let no_fact : HOLDS ≤ a.mark → a.mark < GOAL → ⊥ = elim c.in_default.branch [
      | in_default-via-then-mark-lt4 w ↦ λ x y. omega arith
      | in_default-via-else-mark-lt4+else-mark-lt8+then-mark-lt9 w ↦ λ x y. omega arith
      | in_default-via-else-mark-lt4+else-mark-lt8+else-mark-lt9+else-mark-lt16+then-mark-lt17 w ↦ λ x y. omega arith
      | in_default-via-else-mark-lt4+else-mark-lt8+else-mark-lt9+else-mark-lt16+else-mark-lt17+else-mark-lt19 w ↦ λ x y. omega arith
    ] in
    let not_soft : opens_soft a.mark ≡ false = elim c.in_default.branch [
      | in_default-via-then-mark-lt4 w ↦ under a.mark (omega arith)
      | in_default-via-else-mark-lt4+else-mark-lt8+then-mark-lt9 w ↦ under a.mark (omega arith)
      | in_default-via-else-mark-lt4+else-mark-lt8+else-mark-lt9+else-mark-lt16+then-mark-lt17 w ↦ between a.mark (omega arith) (omega arith)
      | in_default-via-else-mark-lt4+else-mark-lt8+else-mark-lt9+else-mark-lt16+else-mark-lt17+else-mark-lt19 w ↦ over a.mark (omega arith)
    ] in
    sym (of_other a.facts a.floor a.mark a.value (λ e. omega arith) (λ e. omega arith) no_fact (λ e. omega arith) not_soft)
