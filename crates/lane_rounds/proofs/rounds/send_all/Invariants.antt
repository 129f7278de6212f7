use Rattle.std.proofs.Common.{◌≡◌, None}
use Rattle.lane_states.specs.LaneStates.{journal_of, IsKept, HasRoom, IsCarriedBy, NodesOn}
use Rattle.round_keeping.specs.RoundRuns.{IsRunning, GoesOn, RunsOn, left}
use Rattle.lane_states.specs.Shortages.{WhereItEnds, NoneIsShort}
use Rattle.round_keeping.specs.RoundShortages.{HadMemory}
use Rattle.lane_rounds.proofs.rounds.send_all.Given as goal

-- the round went on, and waits for no reply
abbrev pub invariant-sending : goal.invariant-sending
invariant-sending g l = record {
  keeps : IsKept l.lane;
  took : NodesOn l.initial.lane l.lane;
  spare : HasRoom 0 l.lane;
  runs : IsRunning l.initial.lane.lane (journal_of l.lane) l.run;
  told : l.run.round.awaited ≡ None;
  planned : g.C.Carrier.planned l.carrier ≡ g.C.Carrier.planned l.initial.carrier;
  kind : g.C.Carrier.takes_plans l.carrier ≡ g.C.Carrier.takes_plans l.initial.carrier;
  carried : IsCarriedBy l.lane (g.C.Carrier.given l.carrier);
  on : RunsOn l.initial.lane.lane l.initial.run.distributor l.initial.run.state (g.C.Carrier.given l.initial.carrier) (g.C.Carrier.given l.carrier) l.initial.lane.last l.lane.last l.initial.lane.late.late l.lane.late.late (journal_of l.initial.lane) (journal_of l.lane);
  same : GoesOn l.initial.run l.run;
  fine : WhereItEnds l.at_shortage (HadMemory l.initial.run → HadMemory l.run);
  none_is_short : WhereItEnds l.at_shortage (HadMemory l.initial.run → NoneIsShort l.initial.lane.last l.lane.last (journal_of l.lane));
  after : l.lane ≡ record l.initial.lane { journal = l.lane.journal; nodes = l.lane.nodes; late = l.lane.late; last = l.lane.last };
}

abbrev pub decreases-sending : goal.decreases-sending
decreases-sending g l = left l.run.round
