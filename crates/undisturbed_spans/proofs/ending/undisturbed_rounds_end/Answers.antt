use Rattle.undisturbed_spans.proofs.Ended.{has-ended}
use Rattle.undisturbed_spans.proofs.ending.undisturbed_rounds_end.Goals as goal

pub returns : goal.returns
returns c =
    let on = c.upkeep_goes_on.ensures in
    let parts = c.undisturbed_spans_part.ensures in
    let waits = c.late_messages_wait.ensures in
    λ d lane key J M K x y e given after last until late rest old now h.
    has-ended c.undisturbed_runs_round.ensures c.undisturbed_rounds_are_noted.ensures c.undisturbed_unions_are_counted.ensures parts.first parts.second on.span on.behind waits.waiting waits.taken c.runs_are_known.ensures
    d lane key J M K x y e given after last until late rest old now h
