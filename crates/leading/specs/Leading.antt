-- Where action k of t leads from a node.
use Rattle.std.specs.Prelude.{◌≡◌, true, false, ℕ, ◌+◌, Option, None, Some}
use Rattle.meaning.specs.Task.{Task}
use Rattle.meaning.specs.Meaning.{after, action_at, applies}
use Rattle.state.specs.Member.{member}
use Rattle.node_words.specs.Words.{state_of}
use Rattle.node_words.specs.declared.Packed.{Packed}

pub record LedTo (t : Task) (k : ℕ) (x : Packed) (link : ℕ) (y : Packed) : Type 0 where
  pub applying : applies t (member (state_of x)) k ≡ true
  pub state : member (state_of y) ≡ after (member (state_of x)) (action_at t k)
  pub cost : y.cost ≡ x.cost + (action_at t k).cost
  pub linked : y.link ≡ link

abbrev pub LedAs : Task → ℕ → Packed → ℕ → Option Packed → Type 0
LedAs t k x link (Some y) = LedTo t k x link y
LedAs t k x link None = applies t (member (state_of x)) k ≡ false
