-- The word of the met preferences is the number of its bits, so the words are those of a plan that solves: solved_words of Bits.
use Rattle.words.proofs.Bits.{solved_words}
use borrow.Author.Rules.{rules}
use Rattle.words.proofs.put_solution.Goals as goal

pub returns : goal.returns
returns c =
    let a = c.args in
    solved_words _ a.s.cost a.s.met a.looked (search rules) c.put_values.ensures
