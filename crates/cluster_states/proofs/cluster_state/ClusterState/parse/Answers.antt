use Rattle.std.proofs.Common.{[], Ok, ap, ◌<◌, ◌^◌, rules}
use Rattle.cluster_states.proofs.Reaching.{reached_begins}
use Rattle.cluster_states.specs.StateTexts.{IsStateText}
use Rattle.cluster_states.proofs.Telling.{tells_one}
use Rattle.cluster_states.proofs.TextSizes.{offset_small}
use Rattle.cluster_states.proofs.cluster_state.ClusterState.parse.Goals as goal

pub scan-requires-clause-some : goal.scan-requires-clause-some
scan-requires-clause-some c = reached_begins c.start.result [] c.start.ensures

pub overflow_cast-result : goal.overflow_cast-result
overflow_cast-result c =
    let small : c.in-Err.refused.offset < 2 ^ 32 = offset_small _ _ c.in-Err.ensures.refused in
    search rules

pub returns-in-Ok-clause-exact : goal.returns-in-Ok-clause-exact
returns-in-Ok-clause-exact c state t =
    let read : IsStateText c.args.text.now c.in-Ok.state = rw c.as_bytes.ensures.value at c.in-Ok.ensures.read in
    ap Ok (tells_one c.args.text.now c.in-Ok.state state read t)
