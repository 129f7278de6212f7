use Rattle.std.proofs.Common.{◌≡◌, ◌≢◌, Bool, not, [], sym, subst}
use Rattle.std.specs.Prelude.{MatchBool}
use Rattle.std.specs.List.{list_any}
use Rattle.lane_locks.specs.Served.{is_under_way}
use Rattle.lane_locks.proofs.Idling.{idle-is}
use Rattle.lane_locks.proofs.slot.Slot.is_idle.Goals as goal

pub returns : goal.returns
returns g c =
    let x = c.self.inside in
    let test : c.any_under_way.result ≡ list_any is_under_way x.stages.items = rw (c.deref.ensures.value) at c.any_under_way.ensures in
    subst (λ t. MatchBool (not c.any_under_way.result) ((t.lane).lane.under_way ≡ []) ((t.lane).lane.under_way ≢ [])) c.self.view_is
    (subst (λ (b : Bool). MatchBool (not b) (x.lane.lane.under_way ≡ []) (x.lane.lane.under_way ≢ [])) (sym test)
    (idle-is g.S.Segment.feeders (g.S.Segment.lines x.number) (g.S.Segment.began x.number) x.lane.lane x.lines.items x.stages.items c.self.invariant.4))
