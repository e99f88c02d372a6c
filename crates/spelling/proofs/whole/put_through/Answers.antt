-- Refused by 9 the area stays; else it holds the sizes and then the rows (`Fitting`), which are copied from our own area (`Through`).
use mathlib.Core.Path.{◌≡◌, refl, ap, ◌∙◌}
use Rattle.std.specs.Prelude.{Err}
use Rattle.std.proofs.lemmas.Result.{err_from_is_err_and}
use Prim.Native.Nat.{◌≤◌}
use native.Mathlib.Omega.{arith}
use lib.ListN.{length}
use Rattle.task.specs.File.{paired}
use Rattle.task.specs.Answers.{as_sizes}
use Rattle.task.proofs.Checking.{within}
use Rattle.lists.proofs.Tests.{as_t}
use Rattle.spelling.specs.Spelled.{spelled_rows}
use Rattle.spelling.proofs.Fitting.{no_room, put}
use Rattle.spelling.proofs.Through.{through}
use borrow.Author.Rules.{rules}
use Rattle.spelling.proofs.whole.put_through.Goals as goal
use Rattle.spelling.proofs.whole.put_through.Goals.{After-put_task-k}

few : (c : After-put_task-k) → let a = c.args in length (spelled_rows (paired a.rows.now.marks.now a.rows.now.values.now)) ≤ 12000
few c = let s = c.requires.0 in omega (arith, s.fewer, s.rows.few)

sizes : (c : After-put_task-k) → let z = c.args.z in (z.facts ≤ 128) × (z.actions ≤ 128) × (z.preferences ≤ 16)
sizes c =
    let w = within (as_sizes c.args.z) (as_t c.requires.1) in
    (w.2, w.3, w.4)

pub overflow_cast-z : goal.overflow_cast-z
overflow_cast-z c = let h = sizes (goal.at.overflow_cast-z c).After-put_task-k in search rules

pub returns-in_err-length : goal.returns-in_err-length
returns-in_err-length c =
    let a = c.args in
    let r = err_from_is_err_and c.from_residual.result c.from_residual.ensures.1 in
    no_room a.z.facts a.z.actions a.z.preferences (spelled_rows (paired a.rows.now.marks.now a.rows.now.values.now)) a.out.now c.put_task-k.result.next
    c.put_task-k.ensures.next (few (goal.at.returns-in_err-length c).After-put_task-k) c.from_residual.result c.in_err-length.field-0.0 (r.1 ∙ ap Err r.2)
    c.in_err-length.ensures

pub returns : goal.returns
returns c =
    let a = c.args in
    let xs = spelled_rows (paired a.rows.now.marks.now a.rows.now.values.now) in
    let n = c.put_task-k.result.next in
    let all : n ≡ length xs = omega (arith, c.put_task-k.ensures.next, few (goal.at.returns c).After-put_task-k) in
    let rows =
    through a.own.now c.put_task-k.new.out (length a.rows.now.marks.now) xs n all c.requires.0.fewer c.requires.0.rows.few c.requires.2 c.put_task-k.ensures.file
    c.put_sizes.new.out c.copy_rows.new.out (record { rows = n; next = 0 }) c.copy_rows.result refl refl
    (λ i. omega (arith, c.slice_known-3-1.given i)) c.copy_rows.ensures in
    put a.z.facts a.z.actions a.z.preferences xs a.out.now n c.put_task-k.ensures.next (few (goal.at.returns c).After-put_task-k) c.put_sizes.new.out c.copy_rows.new.out
    c.copy_rows.result (search rules) c.put_sizes.ensures rows c.in_ok-length.length c.in_ok-length.ensures
