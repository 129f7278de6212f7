use Rattle.std.proofs.Common.{◌≡◌, ◌∙◌, Option, Some, refl, sym, ap}
use Rattle.cluster_states.specs.declared.cluster_state.ClusterState.{ClusterState}
use Rattle.lane_keeping.specs.Tidings.{heard_next, last_state}
use Rattle.lane_states.specs.LaneStates.{journal_of}
use Rattle.lane_calls.specs.LaneValues.{IsBegunAt, OfFirst}
use Rattle.lane_core.specs.Works.{under_way_in, value_of}
use Rattle.lane_core.specs.declared.work.Job.{Job}
use Rattle.lane_core.proofs.Under.{none-under, first-under}
use Rattle.lane_core.proofs.work.Work.hear.Goals as goal

pub returns-in-Some-hearing_held-clause-hears : goal.returns-in-Some-hearing_held-clause-hears
returns-in-Some-hearing_held-clause-hears c =
    let x = c.args.self.now in
    let d = c.args.distributor in
    let newest : last_state (journal_of x.state) ≡ Some c.in-Some.state = sym c.requires.keeps.newest_is ∙ c.in-Some.is in
    let held = c.in-Some-hearing_held.ensures.held in
    let first : OfFirst (IsBegunAt d) (under_way_in x.jobs.items) c.in-Some-hearing_held.by = first-under (λ (j : Job). j.distributor ≡ d) (IsBegunAt d) x.jobs.items (λ at j got q. q) c.in-Some-hearing_held.by (λ at j got q. q) held.1 in
    λ given planned takes. record { behind = rw newest held.0; first = first; same = refl }

pub returns-in-Ok-clause-hears : goal.returns-in-Ok-clause-hears
returns-in-Ok-clause-hears c =
    let x = c.args.self.now in
    let d = c.args.distributor in
    let s = c.in-Some.state in
    let newest : last_state (journal_of x.state) ≡ Some s = sym c.requires.keeps.newest_is ∙ c.in-Some.is in
    let free = c.in_default-hearing_held.ensures.free in
    λ given planned takes. record {
      version_is = rw newest c.version.ensures.value;
      free = λ behind. none-under (λ (j : Job). j.distributor ≡ d) (IsBegunAt d) x.jobs.items (λ at j got q. q) (free (rw newest at behind));
      after = c.in-Ok.ensures.heard given planned takes ∙ ap (λ (o : Option ClusterState). record (value_of x given planned takes) { journal = heard_next d o (journal_of x.state) }) (sym newest);
    }
