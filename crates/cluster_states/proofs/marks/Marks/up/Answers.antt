use Rattle.std.proofs.Common.{◌∙◌, ap}
use Rattle.node_sets.specs.Members.{size_of}
use Rattle.cluster_states.proofs.MarkSets.{up_size}
use Rattle.cluster_states.proofs.marks.Marks.up.Goals as goal

pub returns-clause-value : goal.returns-clause-value
returns-clause-value c = rw (← c.self.view_is) (c.len.ensures.value ∙ ap size_of c.of.ensures ∙ up_size c.self.inside.up c.self.inside.retired c.self.inside.count c.self.invariant)
