use Rattle.std.proofs.Common.{◌<◌, ◌∙◌, List, length, sym, ap, subst}
use Rattle.std.proofs.lemmas.Result.{on_ok_weaker}
use Rattle.lane_journals.specs.declared.event.LaneEvent.{LaneEvent}
use Rattle.lane_changes.specs.Changes.{changes_of}
use Rattle.lane_calls.specs.LaneValues.{LaneValue}
use Rattle.upkeep_spans.specs.Watches.{takes_plans, planned_in}
use Rattle.lane_core.specs.Shelved.{HoldsFirst}
use Rattle.lane_core.proofs.Shelves.{has-first, shows-then}
use Rattle.lane_core.proofs.lane.Lane.settle.Goals as goal

pub invariant_of-self : goal.invariant_of-self
invariant_of-self g c = record {
  works = c.hand_over.ensures.keeps;
  carried = c.hand_over.ensures.carried c.self.inside.carrier.given c.self.invariant.carried;
  holds = c.hand_over.ensures.holds c.self.invariant.holds;
}

pub returns-in_err-hand_over-clause-lane : goal.returns-in_err-hand_over-clause-lane
returns-in_err-hand_over-clause-lane g c = rw (← c.self.view_is) (c.hand_over.ensures.same c.self.inside.carrier.given (planned_in c.self.inside.carrier.plans) (takes_plans c.self.inside.carrier.plans))

pub returns-in_err-hand_over-clause-more : goal.returns-in_err-hand_over-clause-more
returns-in_err-hand_over-clause-more g c = rw (← c.self.view_is) c.hand_over.ensures.more

pub returns-in_err-hand_over-clause-name : goal.returns-in_err-hand_over-clause-name
returns-in_err-hand_over-clause-name g c = rw (← c.self.view_is) c.hand_over.ensures.name

pub returns-in_err-hand_over-clause-holds : goal.returns-in_err-hand_over-clause-holds
returns-in_err-hand_over-clause-holds g c = rw (← c.self.view_is)
    (subst (λ (J : List LaneEvent). HoldsFirst (g.H.Shelf.shows c.hand_over.new.shelf) (g.H.Shelf.pending c.hand_over.new.shelf) (changes_of J)) (ap (λ (v : LaneValue). v.journal) (c.hand_over.ensures.same c.self.inside.carrier.given (planned_in c.self.inside.carrier.plans) (takes_plans c.self.inside.carrier.plans)))
    (has-first g.H.Shelf.shows g.H.Shelf.pending c.hand_over.new.shelf c.hand_over.new.self c.self.inside.carrier.given (invariant_of-self g c)))

pub invariant_of-self-2 : goal.invariant_of-self-2
invariant_of-self-2 g c = record {
  works = c.hand_over.ensures.keeps;
  carried = c.hand_over.ensures.carried c.self.inside.carrier.given c.self.invariant.carried;
  holds = c.shelves_hold.ensures.published _ _ _ c.publish.ensures.shown (c.hand_over.ensures.holds c.self.invariant.holds);
}

pub returns-clause-lane : goal.returns-clause-lane
returns-clause-lane g c = rw (← c.self.view_is) (c.hand_over.ensures.same c.self.inside.carrier.given (planned_in c.self.inside.carrier.plans) (takes_plans c.self.inside.carrier.plans))

pub returns-clause-more : goal.returns-clause-more
returns-clause-more g c = rw (← c.self.view_is) (shows-then _ _ _ _ _ c.hand_over.ensures.more c.publish.ensures.shown)

pub returns-clause-name : goal.returns-clause-name
returns-clause-name g c = rw (← c.self.view_is) (c.publish.ensures.name ∙ c.hand_over.ensures.name)

pub returns-clause-holds : goal.returns-clause-holds
returns-clause-holds g c = rw (← c.self.view_is)
    (subst (λ (J : List LaneEvent). HoldsFirst (g.H.Shelf.shows c.publish.new.self) (g.H.Shelf.pending c.publish.new.self) (changes_of J)) (ap (λ (v : LaneValue). v.journal) (c.hand_over.ensures.same c.self.inside.carrier.given (planned_in c.self.inside.carrier.plans) (takes_plans c.self.inside.carrier.plans)))
    (has-first g.H.Shelf.shows g.H.Shelf.pending c.publish.new.self c.hand_over.new.self c.self.inside.carrier.given (invariant_of-self-2 g c)))

pub returns-clause-settled : goal.returns-clause-settled
returns-clause-settled g c =
    let same = ap (λ (v : LaneValue). v.journal) (c.hand_over.ensures.same c.self.inside.carrier.given (planned_in c.self.inside.carrier.plans) (takes_plans c.self.inside.carrier.plans)) in
    let all = c.in_ok-hand_over.ensures.all ∙ ap changes_of (sym same) in
    on_ok_weaker c.publish.result (λ none. record {
      shown = subst (g.H.Shelf.shows c.publish.new.self) all
          (c.shelves_hold.ensures.shown _ _ none (c.shelves_hold.ensures.published _ _ _ c.publish.ensures.shown (c.hand_over.ensures.holds c.self.invariant.holds)));
      none = none;
      few = subst (λ (J : List LaneEvent). length (changes_of J) < 18446744073709551615) (sym same) c.in_ok-hand_over.ensures.few;
    }) c.publish.ensures.all
