-- The node is written, its slot set and its leaf opened.
use borrow.Author.Rules.{rules}
use mathlib.Core.Path.{ap}
use Prim.Native.Nat.{ℕ}
use native.Mathlib.Omega.{arith}
use lib.ListN.{set}
use Rattle.tournament.proofs.Owners.{rewritten}
use Rattle.meeting.proofs.add.Goals as goal

pub set_leaf-requires : goal.set_leaf-requires
set_leaf-requires c =
    let W = c.put_node.ensures in
    let P = c.requires.2 in record {
      placed = record { few = search rules; room = omega (arith, W.long) };
      by_index = (P.is_open, rewritten c.args.index.now.tree c.args.words.now P.is_open P.played c.put_node.new.words c.args.n W.others W.long);
    }

pub returns : goal.returns
returns c =
    let W = c.put_node.ensures in record {
      written = (W, ap (λ (k : ℕ). set c.args.index.now.table c.args.slot k) c.entry_of.ensures);
      by_index = λ o P. c.set_leaf.ensures o
          (rewritten c.args.index.now.tree c.args.words.now o P c.put_node.new.words c.args.n W.others W.long);
    }
