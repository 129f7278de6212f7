use Rattle.std.proofs.Common.{◌∙◌, ap}
use Rattle.cluster_states.specs.Publishing.{newest_of}
use Rattle.cluster_states.proofs.states.States.newest.Goals as goal

pub returns : goal.returns
returns c = rw (← c.self.view_is) (c.copied.ensures ∙ c.last.ensures.value ∙ ap newest_of c.deref.ensures.0)
