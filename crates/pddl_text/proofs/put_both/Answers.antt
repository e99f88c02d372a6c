-- The problem's rows end where the actions' begin, so each writer's own promise is what is due.
use borrow.Author.Rules.{rules}
use Rattle.pddl_text.proofs.put_both.Goals as goal

pub put_problem-p-requires : goal.put_problem-p-requires
put_problem-p-requires c =
    let (t, same, spelled) = c.requires.1 in
    (t, spelled)

pub put_domain-d-requires : goal.put_domain-d-requires
put_domain-d-requires c =
    let (t, same, spelled) = c.requires.1 in
    (search rules, search rules, (t, same, (c.put_problem-p.ensures.problem_answer t spelled).1))

pub returns : goal.returns
returns c = record {
  of_task = λ t same spelled. c.put_domain-d.ensures t same (c.put_problem-p.ensures.problem_answer t spelled).1;
  of_task_2 = λ t same spelled. (c.put_problem-p.ensures.problem_answer t spelled).0;
}
