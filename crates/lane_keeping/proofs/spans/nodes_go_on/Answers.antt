use Rattle.lane_keeping.proofs.Going.{go-none, go-waits, go-taken, go-further}
use Rattle.lane_keeping.proofs.spans.nodes_go_on.Goals as goal

pub returns : goal.returns
returns c = record { none = go-none; waits = go-waits; taken = go-taken; further = go-further }
