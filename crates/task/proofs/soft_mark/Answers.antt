-- By opens_hard's answer: a hard mark is 16 or more, so 16 can be taken off (hard_above of Values); any other mark stays.
use mathlib.Core.Path.{◌≡◌, sym, ◌∙◌}
use mathlib.Core.Bool.{true, false}
use Rattle.task.specs.File.{opens_hard}
use Rattle.task.proofs.Values.{hard_above}
use Rattle.task.proofs.soft_mark.Goals as goal
use Rattle.task.proofs.soft_mark.Goals.{Else-opens_hard, Then-opens_hard}

is_hard : (c : Then-opens_hard) → opens_hard c.args.mark ≡ true
is_hard c = sym c.opens_hard.ensures ∙ c.if-opens_hard.true

no_hard : (c : Else-opens_hard) → opens_hard c.args.mark ≡ false
no_hard c = sym c.opens_hard.ensures ∙ c.if-opens_hard.false

pub overflow_sub-result : goal.overflow_sub-result
overflow_sub-result c = hard_above c.args.mark (is_hard c)

pub returns-then-opens_hard : goal.returns-then-opens_hard
returns-then-opens_hard c = rw (is_hard c)

pub returns-else-opens_hard : goal.returns-else-opens_hard
returns-else-opens_hard c = rw (no_hard c)
