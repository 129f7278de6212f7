use Rattle.std.proofs.Common.{sym}
use Rattle.cluster_states.specs.MarkWords.{same_count}
use Rattle.cluster_states.proofs.marks.Marks.len.Goals as goal

pub returns-clause-value : goal.returns-clause-value
returns-clause-value c = rw (← c.self.view_is) (sym (same_count c.self.inside.up c.self.inside.retired c.self.inside.count))
