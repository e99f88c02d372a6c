-- The words, the facts of the start and the goal make the problem, by `problem_put`.
use native.Mathlib.Omega.{arith}
use Prim.Native.Nat.{◌+◌, ◌≤◌}
use lib.ListN.{length}
use Rattle.pddl_text.proofs.TextRows.{goal_within, its_goal, problem_put}
use borrow.Author.Rules.{rules}
use Rattle.pddl_text.proofs.texts.put_problem.Goals as goal
use Rattle.pddl_text.proofs.texts.put_problem.Goals.{After-put_list-s}

-- the goal's row is there
within : (c : After-put_list-s) → c.put_list-s.result.next + 1 ≤ length c.args.rows.now.marks.now
within c =
    let (t, spelled) = c.requires in
    goal_within c.args.rows.now.marks.now c.args.rows.now.values.now t spelled c.put_list-s.result.next c.put_list-s.ensures.next_value

pub put_condition-c-requires : goal.put_condition-c-requires
put_condition-c-requires c =
    let a = c.args in
    let (t, spelled) = c.requires in
    let h = within (goal.at.put_condition-c-requires c).After-put_list-s in
    (search rules, its_goal a.rows.now.marks.now a.rows.now.values.now t spelled c.put_list-s.result.next c.put_list-s.ensures.next_value)

pub put_bytes-k-requires-3 : goal.put_bytes-k-requires-3
put_bytes-k-requires-3 c =
    omega (arith, c.put_condition-c.ensures.from_le_next, c.put_bytes-k-2.ensures.after, c.put_list-s.ensures.from_le_next, c.put_bytes-k.ensures.after, c.args.rows.now.fit.few)

pub returns : goal.returns
returns c =
    let a = c.args in record {
      problem_answer = problem_put a.rows.now.marks.now a.rows.now.values.now c.put_list-s.result c.put_bytes-k.ensures c.put_list-s.ensures.wrote c.put_list-s.ensures.next_value c.put_bytes-k-2.ensures
          c.put_condition-c.ensures.piece_answer c.put_bytes-k-3.ensures;
      next_in_bounds = c.put_condition-c.ensures.from_le_next.1;
    }
