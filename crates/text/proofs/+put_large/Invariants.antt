-- By recursion on n.
use Rattle.text.proofs.+put_large.Given as goal

abbrev pub decreases-put_large : goal.decreases-put_large
decreases-put_large l = l.n
