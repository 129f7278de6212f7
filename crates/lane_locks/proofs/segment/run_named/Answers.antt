use Rattle.std.proofs.Common.{◌∙◌}
use denote.Builtin.{unit}
use denote.Exit.{no}
use denote.Param.Send.{param_send, arg_send}
use Rattle.lane_views.specs.contracts.view.LaneView as view
use Rattle.shelves.specs.contracts.plain_shelf.PlainShelf as shown
use Rattle.shelves.specs.contracts.plain_shelf.PlainShelfShelf.TheImpl as shows
use Rattle.lane_locks.specs.contracts.segment.run_named as run_named
use Rattle.lane_locks.proofs.Sending.{slot_send, shelf_send}
use Rattle.lane_locks.proofs.segment.run_named.Goals as goal

pub run_feeders-requires-send-T : goal.run_feeders-requires-send-T
run_feeders-requires-send-T g c κs lives = param_send 0 _ (arg_send _ no _ (slot_send (run_named.S-row g.row.S g.row.C g.row.G g.row.R) (run_named.C-row g.row.S g.row.C g.row.G g.row.R) shown.the_row unit view.the_row g.S.Segment g.S.Ledger g.C.Carrier shows.ghosts c.type_bounds.send-C shelf_send))

pub returns-clause-feeders : goal.returns-clause-feeders
returns-clause-feeders g c = record {
  locks = c.locks.result.now;
  many = c.locks.ensures.count ∙ c.in_ok-locks.ensures.count;
  numbers = c.locks.ensures.numbers;
  ran = c.run_feeders.ensures;
}
