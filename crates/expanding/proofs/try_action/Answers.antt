-- Where the action leads, and the node that is then met.
use mathlib.Core.Path.{refl, subst}
use mathlib.Core.Logic.{inl, inr}
use Rattle.leading.specs.Leading.{LedAs}
use Rattle.expanding.proofs.try_action.Goals as goal

pub returns-in_default : goal.returns-in_default
returns-in_default c = record {
  tried = λ t k taken A T.
      let a = c.args in
      inl (subst (LedAs t k a.x a.trial.link) c.in_default.is (c.lead.ensures t k A), refl);
  within = c.requires.by_index.1.room;
}

pub returns : goal.returns
returns c = record {
  tried = λ t k taken A T.
      let a = c.args in
      inr (
        c.in-Some.y,
        subst (LedAs t k a.x a.trial.link) c.in-Some.is (c.lead.ensures t k A),
        c.meet.ensures.met taken T.held T.fresh,
      );
  within = c.meet.ensures.within;
}

pub lead-requires : goal.lead-requires
lead-requires c = record {
  rows = (c.requires.rows.0, c.requires.by_index.1.ample);
  some_action = c.requires.rows.1;
}

pub meet-requires : goal.meet-requires
meet-requires c =
    let T = c.requires.by_index.1 in
    (T.room, T.limited, (c.requires.by_index.0, T.held))
