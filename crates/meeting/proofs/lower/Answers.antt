-- The node is written and its games are played again where the way is cheaper, by `rewritten`.
use borrow.Author.Rules.{rules}
use mathlib.Core.Path.{refl, subst}
use mathlib.Core.Logic.{inl, inr}
use Prim.Native.Nat.{ℕ, ◌≤◌, ◌<◌}
use Rattle.tournament.proofs.Owners.{rewritten}
use Rattle.meeting.proofs.lower.Goals as goal

pub replay-requires : goal.replay-requires
replay-requires c =
    let W = c.put_node.ensures in
    let P = c.requires.1 in
    let R = rewritten c.args.tree.now c.args.words.now P.is_open P.played c.put_node.new.words c.args.p W.others W.long in
    (search rules, (P.is_open, R))

pub returns-then-x-cost_at : goal.returns-then-x-cost_at
returns-then-x-cost_at c =
    let W = c.put_node.ensures in record {
      lowered = inl (subst (λ (k : ℕ). c.args.x.cost < k) c.cost_at.ensures c.if-x-cost_at.true, W);
      by_index = λ o P. c.replay.ensures o
          (rewritten c.args.tree.now c.args.words.now o P c.put_node.new.words c.args.p W.others W.long);
    }

pub returns-else-x-cost_at : goal.returns-else-x-cost_at
returns-else-x-cost_at c = record {
  lowered = inr (subst (λ (k : ℕ). k ≤ c.args.x.cost) c.cost_at.ensures (search rules), refl);
  by_index = λ o P. P;
}
