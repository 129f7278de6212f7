use Rattle.cluster_states.proofs.SpaceMoves.{behind_version, behind_marked}
use Rattle.cluster_states.proofs.counts.behind.Goals as goal

pub returns-in-Version : goal.returns-in-Version
returns-in-Version c =
    rw (c.in-Version.is, c.at.ensures, c.with_version.ensures) (behind_version c.args.state c.args.value (rw c.in-Version.is at c.requires.known) (rw c.in-Version.is at c.requires.within))

pub at-requires-in-Marked : goal.at-requires-in-Marked
at-requires-in-Marked c = (behind_marked c.in-Marked.role c.in-Marked.least c.args.state c.args.value (rw c.in-Marked.is at c.requires.known) (rw c.in-Marked.is at c.requires.within)).1.0
