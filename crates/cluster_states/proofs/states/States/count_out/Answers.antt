use Rattle.std.proofs.Common.{◌∙◌, ◌&&◌, not, ap₂}
use Rattle.cluster_states.proofs.Sizes.{size_is_out}
use Rattle.cluster_states.proofs.states.States.count_out.Goals as goal

pub returns : goal.returns
returns c = rw (← c.self.view_is) (c.len_below.ensures.value ∙ size_is_out c.sets_are_their_members.ensures.grows c.sets_are_their_members.ensures.below _ _ _ (λ n. c.difference.ensures n ∙ ap₂ (λ a b. a && not b) (c.self.invariant.known n) (c.serving.ensures n)))
