use Rattle.std.proofs.Common.{◌∷◌, ◌∙◌, ap}
use Rattle.lane_journals.specs.declared.event.LaneEvent.TheVariants.{Returned}
use Rattle.lane_states.proofs.Exchanging.{delivers-same}
use Rattle.lane_states.proofs.TellingBack.{kept-told}
use Rattle.lane_states.proofs.Kept.{kept_runs}
use Rattle.lane_keeping.proofs.Going.{go-waits}
use Rattle.lane_states.proofs.lane_state.LaneState.bring_back.Goals as goal

pub returns-clause-keeps : goal.returns-clause-keeps
returns-clause-keeps c parts are =
    let x = c.args.self.now in
    let b = c.deliver-reply.new.self in
    let m = c.args.message.now in
    let r = c.deliver-reply.result in
    let just = c.requires.just in
    let runs = kept_runs c.requires.keeps m.receiver c.requires.receives in
    let taken = c.deliver-reply.ensures.taken in
    rw c.push_within.ensures.past
    (kept-told x b c.args.number m r parts c.deliver-reply.ensures.after c.deliver-reply.ensures.grows (c.deliver-reply.ensures.keeps x.parts.items c.requires.keeps) c.requires.keeps.accepted are
    (λ other. c.events_are_kept.ensures.answered _ _ _ _ _ _ _ c.requires.keeps.keeps c.args.number m r b.nodes.items just runs other taken)
    (λ t. c.asks_are_kept.ensures.returned _ _ _ _ _ _ _ c.requires.keeps.keeps c.args.number m r b.nodes.items t.distributor parts just runs taken t.asks t.told))

pub returns-clause-dealt : goal.returns-clause-dealt
returns-clause-dealt c = (_, c.push_within.ensures.past ∙ ap (λ J. Returned c.args.number ∷ J) c.deliver-reply.ensures.grows)

pub returns-clause-flight : goal.returns-clause-flight
returns-clause-flight c = rw (c.push_within.ensures.past, c.deliver-reply.ensures.grows)
    (c.messages_fly.ensures.stays _ _ _ _ (c.messages_fly.ensures.stays _ _ _ _ c.requires.just.flight))

pub returns-clause-took : goal.returns-clause-took
returns-clause-took c = rw c.push_within.ensures.past (go-waits _ _ _ _ (Returned c.args.number) tt c.deliver-reply.ensures.took)

pub returns-clause-brought : goal.returns-clause-brought
returns-clause-brought c = record {
  runs = kept_runs c.requires.keeps c.args.message.now.receiver c.requires.receives;
  now = c.deliver-reply.new.self.nodes.items;
  taken = c.deliver-reply.ensures.taken;
  delivers = delivers-same _ _ (c.push_within.ensures.past ∙ ap (λ J. Returned c.args.number ∷ J) c.deliver-reply.ensures.grows);
}
