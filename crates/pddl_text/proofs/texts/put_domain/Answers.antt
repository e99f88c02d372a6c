-- The words, the facts and the lines make the domain, by `domain_put`.
use Rattle.pddl_parts.specs.Writing.{stretch}
use Rattle.pddl_text.proofs.TextRows.{its_actions, domain_put}
use borrow.Author.Rules.{rules}
use Rattle.pddl_text.proofs.texts.put_domain.Goals as goal

pub put_actions-s-requires : goal.put_actions-s-requires
put_actions-s-requires c =
    let a = c.args in
    (search rules, its_actions a.facts (stretch a.rows.now.marks.now a.rows.now.values.now a.from) c.requires.2)

pub returns : goal.returns
returns c =
    let a = c.args in
    domain_put a.facts c.put_bytes-k.ensures c.put_facts-k.ensures.wrote c.put_bytes-k-2.ensures c.put_actions-s.ensures.piece_answer c.put_bytes.ensures
