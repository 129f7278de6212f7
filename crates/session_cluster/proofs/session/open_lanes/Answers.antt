use Rattle.std.proofs.Common.{◌∙◌, List, [], ap, sym, subst}
use Rattle.carriers.specs.declared.fate.Fate.{Fate}
use Rattle.doc_types.specs.SchemaCodes.{Types}
use Rattle.lane_lives.specs.Serving.{IsServing}
use Rattle.shelves.specs.Plain.{Plain}
use Rattle.view_changes.specs.Opening.{opening}
use Rattle.session_cluster.proofs.Openings.{one_more_open, one_more_settled}
use Rattle.session_cluster.proofs.ShelvedLanes.{lanes_pushed, settled_is}
use Rattle.session_cluster.proofs.session.open_lanes.Goals as goal

pub open_lane-requires-clause-types : goal.open_lane-requires-clause-types
open_lane-requires-clause-types g c = c.in_ok-schema.ensures ∙ (c.in_ok-shared.ensures ∙ c.in_ok-copy.ensures)

pub open_lane-requires-clause-shown : goal.open_lane-requires-clause-shown
open_lane-requires-clause-shown g c = ap (λ (p : Plain). p.view) c.in_ok-shelf.ensures ∙ sym (ap (λ (p : Plain). p.opening) c.in_ok-shelf.ensures)

pub open_lane-requires-clause-pending : goal.open_lane-requires-clause-pending
open_lane-requires-clause-pending g c = ap (λ (p : Plain). p.pending) c.in_ok-shelf.ensures

pub loop-lane-preserved : goal.loop-lane-preserved
loop-lane-preserved g c =
    let made = c.in_ok-open_lane.field-0 in
    let opened = subst (λ (p : List Fate). IsServing c.args.setting.now p c.loop-lane.lane [] made.lane) (c.loop-lane.invariant.1.1 c.loop-lane.lane) c.in_ok-open_lane.ensures.new in
    let types = (c.in_ok-shared.ensures ∙ c.in_ok-copy.ensures) ∙ sym c.in_ok-open_lane.ensures.new.types_are in
    let opens = c.in_ok-open_lane.ensures.name ∙ (ap (λ (p : Plain). p.opening) c.in_ok-shelf.ensures ∙ ap (λ (t : Types). opening t) types) in (
      one_more_open _ _ _ _ _ _ c.loop-lane.invariant.0 opened (lanes_pushed _ _ _ c.in_ok-push.ensures.items),
      (one_more_settled _ _ _ c.loop-lane.invariant.1.0 (settled_is made opens c.in_ok-open_lane.ensures.settled) c.in_ok-push.ensures.items, λ other. c.in_ok-open_lane.ensures.same other ∙ c.loop-lane.invariant.1.1 other),
    )
