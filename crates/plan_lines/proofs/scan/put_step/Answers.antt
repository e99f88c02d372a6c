-- The step of a closed line is one byte, by put_byte's contract; no other form has a step: no_step of Modes.
use Rattle.text.specs.Area.{written}
use Rattle.plan_lines.proofs.Modes.{no_step}
use Rattle.plan_lines.proofs.scan.put_step.Goals as goal

pub returns-in_default : goal.returns-in_default
unfolding written
returns-in_default c = rw (no_step c.args.m c.in_default.not-Closed)
