use Rattle.undisturbed_spans.proofs.Running.{ran}
use Rattle.undisturbed_spans.proofs.whole_runs.undisturbed_runs_round.Goals as goal

pub returns : goal.returns
returns c =
    let on = c.upkeep_goes_on.ensures in
    let parts = c.undisturbed_spans_part.ensures in
    let reads = c.undisturbed_reads_are_shown.ensures in
    let tells = c.undisturbed_tellings_are_told.ensures in
    let waits = c.late_messages_wait.ensures in
    λ d lane distributor s given fates last late rest J K old now number b x.
    ran on.none on.one_more on.further on.dealt on.delivered on.span on.behind waits.waiting waits.taken parts.first parts.second c.spans_of_nodes_part.ensures reads.fresh reads.back reads.shown tells.fresh tells.back tells.told
    d lane distributor s given last late J old number b x.started fates rest K x.run now x.nodes x.quiet x.fine
