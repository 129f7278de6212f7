use Rattle.lane_keeping.specs.LaneKeeping.{setting_of, node_in}
use Rattle.lane_keeping.specs.Replaying.{IsTaken}
use Rattle.operation_keeping.proofs.Told.{silent, told-back}
use Rattle.operation_keeping.proofs.laws.operations_hear.Goals as goal

pub returns : goal.returns
returns c = record {
  told = λ lane rules J newest last nodes parts keep d s line row written t number m asked now y after just runs taken a.
      let is_taken : IsTaken (setting_of lane rules) J number m (node_in nodes m.receiver) (node_in now m.receiver) y = record { legal = keep.legal; flight = asked.flight; runs = runs; keeps = keep.nodes_are m.receiver; takes = taken.takes } in
      told-back lane rules J d s line row written t number m keep.legal asked y after just
      (c.nodes_replay.ensures.permitted (setting_of lane rules) J number m (node_in nodes m.receiver) (node_in now m.receiver) y is_taken)
      (c.entries_are_written.ensures.shown (setting_of lane rules) J number m (node_in nodes m.receiver) (node_in now m.receiver) y is_taken)
      (λ w i h. c.entries_are_written.ensures.named J w i h) a;
  silent = λ lane rules J newest last nodes parts keep d s line row written t number m asked after a. silent lane rules J d s line row written t number m keep.legal asked after a;
}
