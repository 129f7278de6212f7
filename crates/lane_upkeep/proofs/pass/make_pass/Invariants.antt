use Rattle.std.proofs.Common.{◌≡◌, ◌<◌, ◌^◌, length}
use Rattle.pass_machine.specs.Going.{left}
use Rattle.lane_states.specs.LaneStates.{GivesOn}
use Rattle.lane_upkeep.specs.Passing.{IsPassing, PassesOn, rows_in}
use Rattle.lane_upkeep.specs.Quiet.{DoesQuietly}
use Rattle.lane_upkeep.specs.Taking.{HasRun}
use Rattle.lane_upkeep.specs.UnderWay.{IsUnderWay}
use Rattle.lane_upkeep.proofs.Standings.{StandsSince}
use Rattle.lane_upkeep.proofs.pass.make_pass.Given as goal

-- the pass is under way, and stands since it began
abbrev pub invariant-loop-pass : goal.invariant-loop-pass
invariant-loop-pass g l = record {
  passing : IsPassing l.lane l.owner (g.C.Carrier.given l.carrier);
  on : PassesOn l.fn.lane l.lane l.owner;
  planned : g.C.Carrier.planned l.carrier ≡ g.C.Carrier.planned l.fn.carrier;
  kind : g.C.Carrier.takes_plans l.carrier ≡ g.C.Carrier.takes_plans l.fn.carrier;
  gives : GivesOn (g.C.Carrier.given l.fn.carrier) (g.C.Carrier.given l.carrier);
  under_way : IsUnderWay l.lane l.owner l.pass;
  run : HasRun l.fn.lane l.lane l.owner l.pass (g.C.Carrier.given l.fn.carrier) (g.C.Carrier.given l.carrier);
  few : length (rows_in l.lane l.owner) < 2 ^ 64;
  quiet : DoesQuietly (g.C.Carrier.given l.fn.carrier) (g.C.Carrier.given l.carrier) l.fn.lane l.lane l.owner (λ d s. StandsSince d s l.fn.lane l.lane l.owner l.pass);
}

abbrev pub decreases-loop-pass : goal.decreases-loop-pass
decreases-loop-pass g l = left (2 ^ 64) (length (rows_in l.lane l.owner)) l.pass.doing
