use borrow.Author.Rules.{rules}
use native.Mathlib.Omega.{arith}
use Rattle.single_effects.proofs.choosing.find_longest.Goals as goal

pub returns-then-choices-eq1 : goal.returns-then-choices-eq1
returns-then-choices-eq1 c = λ h. absurd (omega arith)

pub loop-i-init : goal.loop-i-init
loop-i-init c = (search rules, λ h. absurd (omega arith))

pub loop-i-smaller-then-end-from : goal.loop-i-smaller-then-end-from
loop-i-smaller-then-end-from c = let s = c.skip_marks-next.ensures.lower_bound in omega (arith, s.0)

pub loop-i-preserved-then-end-from : goal.loop-i-preserved-then-end-from
loop-i-preserved-then-end-from c = let s = c.skip_marks-next.ensures in (omega (arith, s.lower_bound.0), λ h. s.value)

pub loop-i-smaller : goal.loop-i-smaller
loop-i-smaller c = let s = c.skip_marks-next.ensures.lower_bound in omega (arith, s.0)

pub loop-i-preserved : goal.loop-i-preserved
loop-i-preserved c = c.loop-i.invariant

pub returns : goal.returns
returns c = c.loop-i.invariant.1
