use Rattle.std.proofs.Common.{◌≡◌, ◌-◌, false, vec_len}
use Rattle.node_sets.specs.Members.{size_of}
use Rattle.lane_keeping.specs.Asking.{OthersStay}
use Rattle.lane_states.specs.LaneStates.{journal_of, IsKept, HasRoom, IsCarriedBy, GivesOn, NodesOn, part_of}
use Rattle.lane_rounds.specs.Openings.{IsOpening, IsAsked}
use Rattle.lane_states.specs.Shortages.{WhereItEnds, NoneIsShort}
use Rattle.lane_rounds.proofs.opening.ask_all.Given as goal

-- nodes were asked, and the part goes on to open its state
abbrev pub invariant-asking : goal.invariant-asking
invariant-asking g l = record {
  keeps : IsKept l.lane;
  took : NodesOn l.fn.lane l.lane;
  spare : HasRoom 0 l.lane;
  carried : IsCarriedBy l.lane (g.C.Carrier.given l.carrier);
  planned : g.C.Carrier.planned l.carrier ≡ g.C.Carrier.planned l.fn.carrier;
  kind : g.C.Carrier.takes_plans l.carrier ≡ g.C.Carrier.takes_plans l.fn.carrier;
  gives : GivesOn (g.C.Carrier.given l.fn.carrier) (g.C.Carrier.given l.carrier);
  opening : IsOpening (part_of l.lane l.distributor);
  asked : IsAsked l.fn.lane.lane l.fn.lane.rules l.distributor (journal_of l.fn.lane) (part_of l.fn.lane l.distributor) (journal_of l.lane) (part_of l.lane l.distributor) l.short;
  fine : WhereItEnds l.at_shortage (l.short ≡ false);
  none_is_short : WhereItEnds l.at_shortage (NoneIsShort l.fn.lane.last l.lane.last (journal_of l.lane));
  others : OthersStay l.fn.lane.lane l.fn.lane.rules l.fn.lane.parts.items l.lane.parts.items l.distributor;
  after : l.lane ≡ record l.fn.lane { journal = l.lane.journal; last = l.lane.last; nodes = l.lane.nodes; parts = l.lane.parts; late = l.lane.late };
  parts : vec_len l.lane.parts ≡ vec_len l.fn.lane.parts;
}

abbrev pub decreases-asking : goal.decreases-asking
decreases-asking g l = 33 - size_of (part_of l.lane l.distributor).asked
